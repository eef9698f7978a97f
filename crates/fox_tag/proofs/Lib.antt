-- The laws of the definitions in specs/, and the theorems: the subkeys and the padding, over the block size and any block function; and the calls on tags.
pub mod Laws
pub mod Subkeys
pub mod Padding
pub mod Tags
pub mod Computed
