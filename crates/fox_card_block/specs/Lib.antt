-- A block stopped between two rounds, the rounds that go on from there, and what a call on part of a block's rounds promises.
pub mod Hold
pub mod Part
