-- The prepared key: its definition, and what preparing one promises.
pub mod Prepared
