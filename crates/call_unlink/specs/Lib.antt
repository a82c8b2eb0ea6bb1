-- Unlink by the tables of a mounted volume.
pub mod Unlinking
