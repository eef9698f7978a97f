-- What the proofs of the exports take: the words of a session, and a call on them.
pub mod Words
pub mod Calls
