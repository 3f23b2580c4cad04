-- A level of states in a half of the table.
pub mod internal
