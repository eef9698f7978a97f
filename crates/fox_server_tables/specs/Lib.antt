-- What the promises of fox_server_tables cite besides the definitions of fox_layers.
pub mod Filled
