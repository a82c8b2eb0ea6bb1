-- What the records of a volume mean, in reading order. Document 01, "What counts" and "Paths"; document 02, T-07.
pub mod Lists
pub mod View
pub mod Counting
pub mod Fate
pub mod Path
pub mod Tree
pub mod Contents
pub mod Listing
