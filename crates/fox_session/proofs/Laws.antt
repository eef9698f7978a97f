-- Laws on the promises of sessions.
pub mod Calls
