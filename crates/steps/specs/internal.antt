-- Vocabulary of internal contracts: no public contract cites it.
pub mod Observed
pub mod Progress
