-- The lines of strokes.
pub mod internal
