-- Laws on blocks in two words, and on round keys by their number.
pub mod Blocks
pub mod Keys
