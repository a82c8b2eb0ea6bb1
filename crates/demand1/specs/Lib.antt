-- Demand 1. What it says is in Words, with the table of refusals in Table; the files between are its proof, and Demand1 has the theorem.
pub mod Table
pub mod Words
-- the bytes stored
pub mod Stores
-- the numbers
pub mod Mounting
pub mod Paths
pub mod Walk
