-- Laws of mounting.
pub mod Checks
pub mod Records
pub mod Reads
pub mod Unused
pub mod Storing
pub mod Attempt
