-- The areas of the program's input.
pub mod Cut
