-- Laws of the register of the check: it is linear, so that several bytes can be taken at a time, by tables and without; and its step is one-to-one.
pub mod Xor
pub mod Linear
pub mod Register
pub mod Bytes
pub mod Remainder
pub mod Table
pub mod Order
