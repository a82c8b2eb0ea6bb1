-- The definitions that the contracts cite, and the laws that callers cite. Assumes nothing.
pub mod Position
pub mod Occupancy
pub mod Laws
