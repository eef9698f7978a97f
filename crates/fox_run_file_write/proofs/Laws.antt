-- Laws on the parts of a file as they are written.
pub mod Unclosed
pub mod File
