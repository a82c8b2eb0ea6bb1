-- The laws that only this crate's functions cite.
pub mod Chunks
pub mod Rules
