-- A phrase in words.
pub mod Rows
pub mod BellRow
pub mod NoteRow
pub mod PhraseTable
pub mod internal
