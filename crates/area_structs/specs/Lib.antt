-- A list of descriptors as numbers.
pub mod Entries
pub mod Numbers
pub mod Cut
