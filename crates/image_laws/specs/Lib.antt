-- Laws of an image: bytes put into it, parts of it, stores one after the other.
pub mod Apart
pub mod Laws
pub mod Stores
