-- The source area of a collection.
pub mod Source
