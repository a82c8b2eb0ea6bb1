-- An append to a mounted volume.
pub mod Last
pub mod Written
pub mod Outcome
