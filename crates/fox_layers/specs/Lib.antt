-- What the promises and laws of fox_layers cite: 001's definitions, in its order.
pub mod Lists
pub mod Words
pub mod Field
pub mod Substitution
pub mod Diffusion
pub mod Tables
pub mod Bits
pub mod Structs
