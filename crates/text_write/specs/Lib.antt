-- Text written into a lent buffer.
pub mod Clip
pub mod Digits
