-- The run of one playing, in words.
pub mod internal
