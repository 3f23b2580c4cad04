-- How the reader's rows come to the analysis.
pub mod Readings
