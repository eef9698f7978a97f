-- Laws on a step of a session.
pub mod Steps
