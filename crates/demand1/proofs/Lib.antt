-- Demand 1. What it says is in Words, with the table of refusals in Table; the files between are its proof, and Demand1 has the theorem.
-- the bytes stored
pub mod Stores
-- the numbers
pub mod Touched
pub mod Exactly
pub mod Numbers
pub mod Demand1
