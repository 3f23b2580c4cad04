-- The records of the file.
pub mod internal
