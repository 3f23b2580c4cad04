-- The result of an accepted analysis.
pub mod internal
