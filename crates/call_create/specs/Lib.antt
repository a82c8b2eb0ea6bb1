-- Create by the tables of a mounted volume.
pub mod Creating
