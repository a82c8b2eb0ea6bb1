-- Lists of area descriptors as slices of numbers, and what check 1 finds of them.
pub mod Numbers
pub mod Described
pub mod Steps
pub mod Listing
pub mod Good
pub mod Description
pub mod Places
