-- The lines of a report, to the byte.
pub mod Lines
pub mod internal
