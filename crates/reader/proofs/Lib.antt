-- Proofs of the reader.
pub mod FileReading
pub mod Completing
pub mod Handing
pub mod examples
