-- Laws and theorems on the run file, and its definitions computed.
pub mod Laws
pub mod Written
pub mod Right
pub mod Served
pub mod Changed
pub mod One
pub mod Calls
pub mod GivenBack
pub mod Writing
pub mod Computed
