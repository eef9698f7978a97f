-- What the station's exports on sessions promise.
pub mod Sessions
