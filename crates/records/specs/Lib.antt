-- The records of a phrase file, read.
pub mod internal
