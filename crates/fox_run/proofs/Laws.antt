-- Laws on the definitions, which proofs cite in place of a definition's text.
pub mod XorFrom
pub mod Counting
pub mod Streams
pub mod Loop
pub mod Parts
pub mod Served
pub mod FourBlocks
pub mod Numbers
