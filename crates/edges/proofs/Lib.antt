-- Laws of edges.
pub mod Candidates
pub mod Listing
pub mod Folds
pub mod Rests
pub mod Sharing
pub mod Edges
pub mod Holders
pub mod examples
