-- Vocabulary of internal contracts: no public contract cites it.
pub mod JobRow
pub mod JobTable
pub mod Fields
pub mod Order
pub mod Rests
