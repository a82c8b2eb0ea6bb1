-- Ancestors by a table: what the code answers, and its laws.
pub mod Lineage
