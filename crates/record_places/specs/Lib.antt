-- Records held by their places in an image.
pub mod Place
pub mod Laws
pub mod Stays
