-- Laws of the register of the check: it is linear, so that several bytes can be taken at a time, by tables and without; and its step is one-to-one.
pub mod Remainder
pub mod Table
