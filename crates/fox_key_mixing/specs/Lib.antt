-- What the promises and laws of fox_key_mixing cite: 001's definitions, in its order, and what the code's structs hold.
pub mod Padding
pub mod Diversification
pub mod KeyBytes
