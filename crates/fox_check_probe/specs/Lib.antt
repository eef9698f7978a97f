-- What the numbers of an exported call stand for.
pub mod Unpacked
