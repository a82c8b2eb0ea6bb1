-- The on-flash format, in reading order. Document 01, "Layouts" and "How an area is read".
pub mod Bytes
pub mod Crc
pub mod Ids
pub mod Record
pub mod AreaHeader
pub mod Reading
pub mod BlockSize
pub mod Encoding
