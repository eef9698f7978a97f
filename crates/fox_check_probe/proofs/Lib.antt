-- What a block sealed again and again is.
pub mod LeftWords
