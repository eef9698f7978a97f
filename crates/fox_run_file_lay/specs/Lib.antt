-- What writing the scans of a run file needs, and what it does.
pub mod Laid
