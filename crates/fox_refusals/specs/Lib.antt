-- What the promises of every call cite: the refusals in their order, and the whole answer.
pub mod Refusals
pub mod Answer
pub mod Reply
pub mod Handed
