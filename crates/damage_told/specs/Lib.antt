-- Where the damage is (document 02, T-08). Words states it, Told proves it.
pub mod Words
-- the parts of an area, and their bytes
pub mod Runs
pub mod Free
-- descriptors not in order of offset
pub mod Example
