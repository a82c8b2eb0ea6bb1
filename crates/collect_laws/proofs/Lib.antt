-- Laws of a collection: its source, what survives it, and what its stores make of the image.
pub mod Source
pub mod Mounted
