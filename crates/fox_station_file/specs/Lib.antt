-- What the station's exports on run files promise.
pub mod Files
