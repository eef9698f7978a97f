-- What the promises of fox_server_lookups cite besides the definitions of fox_layers.
pub mod Entry
