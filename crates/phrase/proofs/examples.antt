-- Worked examples of the definitions.
pub mod Numbers
