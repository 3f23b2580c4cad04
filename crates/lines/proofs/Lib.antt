-- Laws of the lines of a report and of their lengths.
pub mod LineLengths
pub mod Parts
pub mod Series
pub mod examples
