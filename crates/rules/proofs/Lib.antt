-- Laws of the rules as they are asked.
pub mod Outcomes
pub mod Marks
pub mod Turns
pub mod Counting
pub mod NoteAsked
pub mod NoteLent
pub mod Wholes
pub mod examples
