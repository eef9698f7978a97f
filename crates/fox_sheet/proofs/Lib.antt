-- The laws and theorems on the bench sheet and its answer.
pub mod Laws
pub mod Prefix
pub mod Answered
pub mod Written
pub mod Computed
