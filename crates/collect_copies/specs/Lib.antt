-- The records that a collection copies.
pub mod Copied
pub mod Lists
pub mod First
pub mod Tests
pub mod Steps
pub mod Loops
pub mod Bridge
