-- The report of a check: its text, to the byte, and its result.
pub mod Report
pub mod internal
