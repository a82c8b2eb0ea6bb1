-- The tree of a mounted volume.
pub mod Ordered
pub mod Outcome
