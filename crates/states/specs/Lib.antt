-- States in words, and what writing them leaves.
pub mod internal
