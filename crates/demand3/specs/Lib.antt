-- Demand 3. What it says is in Words and Demand3; the files between are its proof, from one area up to the image, and the last two an example.
pub mod Words
pub mod Area
pub mod Decide
pub mod Example
