-- Refusals 5 and 6 and the two tables: definitions, check 6 with one record more, and the laws of the loop.
pub mod Gather
pub mod Agreement
pub mod Laws
pub mod Twins
pub mod Parts
