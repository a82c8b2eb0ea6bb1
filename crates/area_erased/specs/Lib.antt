-- The erased end of an area: definitions and laws.
pub mod Erased
