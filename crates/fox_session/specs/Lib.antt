-- A session: the plain machine, the block in use, and what the calls on a session promise.
pub mod Machine
pub mod InUse
pub mod Promise
