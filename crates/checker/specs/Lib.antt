-- The check in code.
pub mod internal
