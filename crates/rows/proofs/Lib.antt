-- Laws of rows: of any kind, of bells, of notes; and of the table of a phrase.
pub mod Records
pub mod BellRow
pub mod NoteRow
pub mod RowsRead
pub mod PhraseTable
pub mod examples
