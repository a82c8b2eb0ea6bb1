-- What is written into an image, and that it reads as what was meant.
pub mod Sealed
pub mod Changed
pub mod Written
