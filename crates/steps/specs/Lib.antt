-- What the words say while a state is explored.
pub mod internal
