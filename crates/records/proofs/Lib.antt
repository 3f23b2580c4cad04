-- Proofs of the records.
pub mod Outcomes
pub mod BellReading
pub mod Lookup
pub mod NoteReading
pub mod examples
