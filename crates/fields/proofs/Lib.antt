-- Laws of the fields of records.
pub mod ListedJobs
pub mod Widths
pub mod Sizes
pub mod Shifts
pub mod Rests
pub mod Numbers
