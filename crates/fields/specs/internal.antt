-- Vocabulary of internal contracts: no public contract cites it.
pub mod BellWith
pub mod Layouts
pub mod NoteRecord
pub mod Numbers
