-- How long the pieces of an append are, and how many.
pub mod Cut
