-- What the promises and laws of fox_rounds cite: 001's definitions, in its order, blocks XORed, and round keys in an array.
pub mod Rounds
pub mod Skeleton
pub mod RoundKeys
pub mod Xor
