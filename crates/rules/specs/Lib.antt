-- The rules asked of a phrase in words.
pub mod internal
