-- Laws on the definitions, which proofs cite in place of a definition's text.
pub mod KeyBytes
pub mod Stream
pub mod Mixing
