-- The laws of the server engine's steps on one block, and the theorem on a block with a prepared key.
pub mod Laws
pub mod ByPrepared
