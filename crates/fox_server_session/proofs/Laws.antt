-- Laws on a session as one value.
pub mod Sessions
