-- Demand 2 for format, create, append and unlink. What each call promises is in the file named after it; the other files are their proof, in
-- the order in which they build on one another, but for the records that those promises cite: Store.RecordFits, FirstWithRoom and OneStored,
-- Places.Written and AreaGrown, Unused.Unused, NewRecord.WrittenOne, Cut.Sized, Pieces.NextBlock and Chained, and Smallest of the laws of calls.
-- lists of bytes
pub mod Octet
-- one record stored in an area, in an image, and several one after the other
pub mod Area
pub mod Store
pub mod Places
-- ids and names
pub mod Unused
pub mod Names
-- one more record in a volume
pub mod Added
pub mod Found
pub mod Lineage
pub mod Newer
pub mod NewRecord
pub mod Rewritten
-- the calls
pub mod NewInode
pub mod Create
pub mod Cut
pub mod Pieces
pub mod Append
pub mod Deletion
pub mod Unlink
pub mod Labels
pub mod Format
pub mod Refused
