-- Sheets whose block is served, each with what is printed for it.
pub mod Examples
