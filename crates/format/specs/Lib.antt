-- The phrase file: its layout, the phrase that it holds, its rules, how it is read and how it is written; the jobs of a phrase, and a phrase written with a shift.
pub mod Bytes
pub mod Layout
pub mod Outcome
pub mod Phrase
pub mod Rules
pub mod Reading
pub mod Jobs
pub mod Valid
pub mod Writing
pub mod Fits
pub mod Shifting
pub mod internal
