-- Laws of what the records of a volume mean, for any view of records, in reading order.
pub mod Contents
pub mod Chain
