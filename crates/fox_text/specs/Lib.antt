-- What the promises on texts cite: lines, decimals, pairs of hex digits, and lines of a name and a value.
pub mod Ascii
pub mod Names
pub mod Lines
pub mod Rules
pub mod Decimal
pub mod Hex
pub mod Put
pub mod Fields
