-- Ranges in words.
pub mod internal
