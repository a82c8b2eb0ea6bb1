-- Laws of the format and of reading an area, which callers cite without opening the definitions.
pub mod Bytes
pub mod Crc
pub mod Record
pub mod Reading
pub mod Taken
pub mod Clean
pub mod Encoding
pub mod Header
pub mod Octets
pub mod Magic
pub mod Tests
pub mod BlockSize
