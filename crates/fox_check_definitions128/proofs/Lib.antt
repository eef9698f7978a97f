-- The definitions on 001's test vectors of FOX128.
pub mod Vectors
