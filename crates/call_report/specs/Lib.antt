-- The report of a mounted volume, by its rows of inodes and its damage.
pub mod Counts
