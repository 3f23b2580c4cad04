-- Worked examples of the definitions: tables of phrases.
pub mod Tables
