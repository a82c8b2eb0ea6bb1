-- What a header over an erased area is.
pub mod Headed
