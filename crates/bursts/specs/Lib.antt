-- T-11. What it says is in Words and Caught; the files between are its proof, from the bits of the check up to a record. The last two are examples.
pub mod Words
pub mod Feed
pub mod Bits
pub mod Codeword
pub mod Magics
pub mod Distance
pub mod Parity
pub mod Decide
pub mod Example
