-- The measured cases that are proved.
pub mod Measured
