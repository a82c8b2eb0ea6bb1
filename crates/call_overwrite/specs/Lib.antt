-- What an overwrite writes, and what becomes of it.
pub mod Written
pub mod Outcome
