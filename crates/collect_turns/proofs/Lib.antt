-- In which order areas are collected, and how often each (document 02, T-14), proved.
-- the order of counts
pub mod Order
-- one collection, and any number of them
pub mod Turn
pub mod Turns
-- by the counts in the headers
pub mod Shares
pub mod Formatted
-- across 255 to 0
pub mod Example
