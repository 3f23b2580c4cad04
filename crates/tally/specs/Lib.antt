-- The strokes of a phrase bell by bell, and their lines in a report.
pub mod Tally
pub mod internal
