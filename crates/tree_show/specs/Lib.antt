-- The lines of the tree, shown one after the other.
pub mod Show
pub mod Going
pub mod Walk
