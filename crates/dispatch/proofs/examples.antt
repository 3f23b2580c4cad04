-- Worked examples of the definitions.
pub mod WakeWords
pub mod Keys
pub mod Histories
