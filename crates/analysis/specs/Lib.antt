-- What the words say while levels are built.
pub mod internal
