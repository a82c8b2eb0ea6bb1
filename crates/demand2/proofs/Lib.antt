-- Demand 2 for format, create, append and unlink, proved: each file by the definitions in the file of its name in specs, in the order in which
-- they build on one another.
-- one record stored in an area, in an image, and several one after the other
pub mod Store
pub mod Places
-- ids and names
pub mod Unused
-- one more record in a volume
pub mod Added
pub mod Newer
pub mod Entered
pub mod Mounted
pub mod NewRecord
pub mod Rewritten
-- the calls
pub mod NewInode
pub mod EmptyFile
pub mod Create
pub mod NewBlock
pub mod Cut
pub mod Pieces
pub mod Append
pub mod Deletion
pub mod Unlink
pub mod Format
pub mod Refused
