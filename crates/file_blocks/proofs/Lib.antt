-- What only this crate's functions cite.
pub mod Each
