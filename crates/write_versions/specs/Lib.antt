-- The blocks that hold a byte of a range, and their new versions.
pub mod Held
pub mod Greatest
pub mod Plan
pub mod Sizes
pub mod Version
pub mod Stores
