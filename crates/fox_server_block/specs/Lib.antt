-- What the server engine's steps on one block need.
pub mod Ready
