-- Laws of the states of a half.
pub mod Storing
pub mod Slots
pub mod Chains
pub mod Indexing
pub mod Linking
