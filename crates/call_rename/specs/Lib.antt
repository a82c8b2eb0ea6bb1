-- Rename by the tables of a mounted volume.
pub mod Renaming
