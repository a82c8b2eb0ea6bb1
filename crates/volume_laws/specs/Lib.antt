-- Laws of what the records of a volume mean, for any view of records, in reading order.
pub mod Tests
pub mod Lists
pub mod Library
pub mod Steps
pub mod Once
pub mod Sort
pub mod Counting
pub mod Climb
pub mod Tree
pub mod Map
pub mod Contents
pub mod Chain
pub mod Sound
pub mod Listing
