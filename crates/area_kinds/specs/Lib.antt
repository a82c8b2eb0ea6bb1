-- The kinds of areas, and what checks 1 to 4 find of them.
pub mod Kinds
pub mod Checks
pub mod Places
