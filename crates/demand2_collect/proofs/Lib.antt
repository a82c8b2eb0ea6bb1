-- Demand 2 for collect, and the whole of demand 2. What collect promises is in Collect; the files before it are its proof.
pub mod Dropped
pub mod Copies
pub mod Collect
pub mod Demand2
