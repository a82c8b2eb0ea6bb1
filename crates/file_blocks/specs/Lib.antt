-- The contents of a file, read from the mounted block table.
pub mod Blocks
pub mod Rows
pub mod Walk
