-- What the parts of this crate promise each other.
pub mod Added
