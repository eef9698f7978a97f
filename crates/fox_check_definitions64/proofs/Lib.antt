-- The definitions on 001's test vectors of FOX64.
pub mod Vectors
