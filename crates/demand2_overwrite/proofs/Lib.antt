-- Demand 2 for overwrite, document 02's T-05. What it promises is in Overwrite; the files before it are its proof, but for the words that the promise
-- cites: Blocks.held, HoldsByte, Holder, Rewritten and BlocksAfter.
pub mod Renewed
pub mod Versions
pub mod Blocks
pub mod Overwrite
