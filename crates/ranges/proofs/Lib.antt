-- Laws of ranges in words.
pub mod Widening
