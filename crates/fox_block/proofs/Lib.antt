-- The laws of the definitions in specs/, and the theorems on blocks.
pub mod Laws
pub mod Blocks
pub mod Computed
