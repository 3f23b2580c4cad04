-- Laws of numbers and fields put into bytes.
pub mod ByBytes
pub mod Fields
pub mod Versioned
pub mod Listed
pub mod NoteOfRow
