-- How the words of the analysis become the result.
pub mod Accepted
pub mod Results
