-- Vocabulary of internal contracts: no public contract cites it.
pub mod Spare
