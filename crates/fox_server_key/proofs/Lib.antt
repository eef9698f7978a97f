-- The laws of the definitions in specs/, and the theorems on a prepared key: what preparing returns, and its entries.
pub mod Laws
pub mod Entries
pub mod Preparing
