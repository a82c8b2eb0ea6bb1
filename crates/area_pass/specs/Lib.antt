-- One pass over the file areas: the places of their records in the image, their damage, and what their rows tell of their readings.
pub mod Listing
pub mod Laws
pub mod Areas
pub mod Reading
pub mod Rows
pub mod Bridge
