-- The definitions that the contracts cite, and the laws that callers cite. Assumes nothing.
pub mod Index
pub mod Laws
pub mod Rows
