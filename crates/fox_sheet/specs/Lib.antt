-- The bench sheet and its answer.
pub mod Sheet
pub mod Written
pub mod Reading
pub mod Answer
pub mod Examples
