-- What the station's exports promise: the calls that C programs make.
pub mod Exports
