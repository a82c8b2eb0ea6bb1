-- The tree of a volume (document 02, T-07). Words states it, Tree and Text prove it.
pub mod Words
-- lists: what stands before what, and what stands in one piece
pub mod Places
-- what stands around an inode's line, and where "deeper" stands
pub mod Shown
pub mod Deeper
-- the text and the call
pub mod Text
pub mod Size
-- the theorem
pub mod Example
