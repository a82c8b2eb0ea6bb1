-- The free space of areas in two slices, and the first of it with room.
pub mod Spaces
pub mod First
pub mod Rows
pub mod Plan
pub mod Clear
