-- Inodes in order of their names, then ids: the order of places, and the laws of a list that is kept in it.
pub mod Order
pub mod Insertion
