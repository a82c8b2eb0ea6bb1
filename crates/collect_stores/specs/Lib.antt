-- The stores of a collection, as laws of images.
pub mod Records
pub mod Moving
pub mod Reset
pub mod Filled
pub mod Moved
pub mod Fits
