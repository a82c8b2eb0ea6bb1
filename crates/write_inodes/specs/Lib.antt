-- One inode stored where it first fits, and an inode rewritten.
pub mod Stored
pub mod Rewriting
