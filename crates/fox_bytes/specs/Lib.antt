-- What the promises of fox_bytes cite besides the definitions of fox_layers.
pub mod WordBytes
