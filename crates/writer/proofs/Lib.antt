-- Laws of a phrase put into the bytes of its file.
pub mod PutRecords
pub mod PutBells
pub mod PutNotes
pub mod PutFile
pub mod Writes
pub mod examples
