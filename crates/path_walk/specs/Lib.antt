-- Directories and paths by the mounted inode table: what the code answers, and its laws.
pub mod Resolved
pub mod Laws
