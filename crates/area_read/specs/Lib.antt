-- What the code of areas answers, and its laws.
pub mod Area
pub mod Kinds
pub mod Laws
