-- The collection of a mounted volume.
pub mod Source
pub mod Mounted
