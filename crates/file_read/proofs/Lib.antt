-- What only this crate's functions cite.
pub mod Blocks
