-- Laws of jobs in words.
pub mod Jobs
pub mod Order
pub mod Rests
pub mod JobRow
pub mod examples
