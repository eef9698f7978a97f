-- What the parts of the writer need.
pub mod Ready
