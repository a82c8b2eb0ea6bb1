-- In which order areas are collected, and how often each (document 02, T-14). Words and Shares state it.
pub mod Words
-- the order of counts
pub mod Order
-- one collection, and any number of them
pub mod Turn
-- by the counts in the headers
pub mod Shares
-- the calls that may stand between collections
pub mod Calls
-- across 255 to 0
pub mod Example
