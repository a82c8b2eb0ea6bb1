-- The report of one area, by its header and its reading.
pub mod Header
pub mod Report
