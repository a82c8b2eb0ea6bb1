-- The names of a path one by one, and their laws.
pub mod Names
pub mod Segments
pub mod Walking
