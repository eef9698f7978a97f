-- What the promises and laws of fox_key_nonlinear cite: 001's definitions, in its order.
pub mod Nonlinear
