-- The run file: its text, what it says, the refusals of its calls, and what they promise.
pub mod Format
pub mod Sizes
pub mod Says
pub mod Refusals
pub mod Places
pub mod Values
pub mod Outcomes
pub mod Promise
pub mod Parts
