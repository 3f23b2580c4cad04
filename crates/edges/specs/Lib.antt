-- Edges in words.
pub mod internal
