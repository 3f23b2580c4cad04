-- The reader's answers and tables.
pub mod internal
