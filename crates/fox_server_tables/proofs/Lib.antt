-- The joined S-box/diffusion tables (TBSM) in the form in which they are computed, and arrays while they are filled.
pub mod Laws
