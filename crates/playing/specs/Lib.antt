-- A playing of a phrase: its file, the run that it gives, and what is promised of it.
pub mod Playing
pub mod Promise
pub mod internal
