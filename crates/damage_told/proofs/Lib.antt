-- Where the damage is (document 02, T-08). Words states it, Told proves it.
-- one area, and the report
pub mod Told
-- descriptors not in order of offset
pub mod Example
-- one area, as its report tells it
pub mod Area
