-- What the bench program prints for sheets whose block is served, computed by the definitions.
pub mod Sheets
