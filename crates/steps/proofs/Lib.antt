-- Laws that belong to no one function.
pub mod Ranges
pub mod Following
