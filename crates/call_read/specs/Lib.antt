-- The answers of lookup and open, and reading by the tables of a mounted volume.
pub mod Reads
