-- Vocabulary of internal contracts: no public contract cites it.
pub mod Wakes
pub mod Choice
pub mod Turns
