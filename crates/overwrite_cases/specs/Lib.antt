-- What T-05 says of some small volumes, by computation.
pub mod Cases
