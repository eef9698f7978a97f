-- Laws on lengths added up one by one, and on the tests of a call.
pub mod Sums
pub mod Tests
