-- Worked examples of internal vocabulary.
pub mod Answers
