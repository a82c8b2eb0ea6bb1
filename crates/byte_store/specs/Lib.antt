-- Bytes stored one by one.
pub mod Storing
