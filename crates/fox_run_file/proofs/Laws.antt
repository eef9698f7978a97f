-- Laws on the run file: lengths, lines and scans that code looks for, what is written as it is read, what was read as it would be written, data cut into
-- scans, reading scan after scan, and what a call that is served knows.
pub mod Lengths
pub mod Sizes
pub mod Lines
pub mod Scan
pub mod Rest
pub mod Close
pub mod Written
pub mod Again
pub mod Turned
pub mod Cut
pub mod Reading
pub mod Refusals
pub mod Writes
pub mod TakeUp
