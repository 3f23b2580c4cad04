-- Laws of the rows that are made of a phrase.
pub mod Held
pub mod Made
