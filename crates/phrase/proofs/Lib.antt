-- What the number that a host gets says.
pub mod Numbers
pub mod Example
pub mod Rereading
pub mod Played
pub mod examples
