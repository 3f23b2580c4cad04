-- Vocabulary of internal contracts: no public contract cites it.
pub mod Half
pub mod Chains
pub mod Index
