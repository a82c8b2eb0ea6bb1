-- What T-07 says of some small volumes, by computation.
pub mod Volumes
pub mod Cases
