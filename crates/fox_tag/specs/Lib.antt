-- Tags (CMAC): the definition that every engine is held to.
pub mod Cmac
pub mod Tag
pub mod Promise
