-- Vocabulary of internal contracts and of proofs: no public contract cites it.
pub mod Analysable
pub mod Sized
