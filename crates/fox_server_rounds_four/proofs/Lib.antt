-- The laws of the definitions in specs/.
pub mod Laws
