-- The pieces of an append: what is planned for them, and the loops over them.
pub mod Plan
pub mod Laws
