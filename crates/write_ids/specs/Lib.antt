-- A window of ids, one bit an id: what its bits tell, and the laws of marking and taking ids.
pub mod Window
pub mod Laws
