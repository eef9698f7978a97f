-- The register of the key schedules: its seed, and its steps forward and back.
pub mod Register
