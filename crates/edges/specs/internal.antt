-- Vocabulary of internal contracts: no public contract cites it.
pub mod Edges
pub mod Ends
