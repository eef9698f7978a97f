-- The laws on texts.
pub mod Laws
