-- What the magics of records tell of the places where one starts, and the laws of the search for them.
pub mod Magic
pub mod Laws
