-- Jobs in words.
pub mod internal
