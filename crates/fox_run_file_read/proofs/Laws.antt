-- Laws on what the parts of this crate promise each other, and on what reading a scan returns.
pub mod Found
pub mod Opened
