-- Small volumes that the worked cases speak of.
pub mod Volumes
