-- The blocks of a file in a list.
pub mod Listing
pub mod File
