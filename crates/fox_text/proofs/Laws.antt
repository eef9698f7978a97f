-- Laws on the definitions, which proofs cite in place of a definition's text.
pub mod Tests
pub mod Lines
pub mod Decimals
pub mod Pairs
pub mod Stores
pub mod Fields
pub mod Prefixes
pub mod Written
pub mod Values
pub mod Texts
pub mod TextsAgain
