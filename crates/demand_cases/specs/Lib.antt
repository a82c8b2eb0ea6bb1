-- What the demands say of some small volumes, by computation.
pub mod Story
pub mod Cases
