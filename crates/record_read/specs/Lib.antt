-- What the header types hold, and what decides the size of a record.
pub mod Headers
pub mod Sizes
