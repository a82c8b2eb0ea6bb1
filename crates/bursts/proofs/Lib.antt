-- T-11. What it says is in Words and Caught; the files between are its proof, from the bits of the check up to a record. The last two are examples.
pub mod Accepted
pub mod Magics
pub mod Bursts
pub mod Few
pub mod Caught
pub mod Decide
pub mod Example
