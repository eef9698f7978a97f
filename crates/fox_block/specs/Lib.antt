-- One block, sealed and opened: the definition that every engine is held to, and 001's test vectors.
pub mod Block
pub mod Promise
pub mod Vectors
