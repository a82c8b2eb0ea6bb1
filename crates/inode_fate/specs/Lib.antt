-- Fates by a table: what the code answers, and its laws.
pub mod Fates
pub mod Laws
