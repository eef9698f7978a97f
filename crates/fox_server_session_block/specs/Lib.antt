-- A round key by its number, for either cipher.
pub mod Keys
