-- The spare words of a state.
pub mod internal
