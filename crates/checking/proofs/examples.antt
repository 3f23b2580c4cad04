-- Worked examples of the definitions.
pub mod Checks
pub mod Playable
pub mod Certain
