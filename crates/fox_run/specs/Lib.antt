-- A run in counter mode (CTR): the definition that every engine is held to.
pub mod Counter
pub mod Run
pub mod Promise
pub mod States
pub mod Parts
pub mod Cuts
