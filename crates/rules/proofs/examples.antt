-- Worked examples of internal vocabulary.
pub mod Asked
