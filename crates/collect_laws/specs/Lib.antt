-- Laws of a collection: its source, what survives it, and what its stores make of the image.
pub mod Source
pub mod Header
pub mod Stores
pub mod Room
pub mod Survivors
