-- The tree of a volume (document 02, T-07). Words states it, Tree and Text prove it.
-- what stands around an inode's line, and where "deeper" stands
pub mod Deeper
-- the lines
pub mod Told
-- the text and the call
pub mod Text
pub mod Size
-- the theorem
pub mod Tree
pub mod Example
