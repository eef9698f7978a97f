-- Laws on the definitions, which proofs cite in place of a definition's text.
pub mod Lists
pub mod Xor
pub mod Words
pub mod StdBytes
pub mod Bytewise
pub mod Field
pub mod Matrix
pub mod Bits
pub mod Nibbles
pub mod Tables
