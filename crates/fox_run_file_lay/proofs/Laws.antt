-- Laws on a buffer with a text at its front and bytes further back, and on scans that are laid there.
pub mod Laid
pub mod Scans
