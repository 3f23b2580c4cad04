-- What writing answers, and what it asks of what it puts.
pub mod internal
