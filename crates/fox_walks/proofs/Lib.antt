-- What walks of MIR by hand have in common, whatever the functions are.
pub mod Spelling
pub mod Walk
pub mod Behind
