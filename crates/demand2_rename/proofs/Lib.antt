-- Demand 2 for rename, document 02's T-01. What it promises is in Rename; the file before it is its proof.
pub mod Moved
pub mod Rename
