-- The tables, and the round keys, that are passed by reference to the server engine's rounds.
pub mod Tables
pub mod Keys
