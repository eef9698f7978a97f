-- What the promises and laws of fox_key_schedule cite: the three key schedules, and the round keys that the code's `Schedule` gives.
pub mod Schedule
pub mod Step
