-- Tables: what an answer of theirs says, what their rows are, one record more, the laws of both, how a table stands in one part of a list, and its index.
pub mod Answer
pub mod Table
pub mod Snoc
pub mod Laws
pub mod Parts
pub mod Rows
