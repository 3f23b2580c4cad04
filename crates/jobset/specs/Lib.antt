-- The jobs of a table that holds a phrase.
pub mod internal
