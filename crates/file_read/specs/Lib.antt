-- What a read of a file gives, and the walk that gives it.
pub mod Reading
pub mod Laws
pub mod Follow
pub mod Give
