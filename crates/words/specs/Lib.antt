-- Lists of words.
pub mod Tabulate
pub mod Padded
pub mod internal
