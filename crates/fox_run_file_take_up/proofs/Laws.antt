-- Laws on what taking up a file returns.
pub mod Taken
