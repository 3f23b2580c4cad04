-- Laws of lists of words.
pub mod Tabulate
pub mod Padded
pub mod Parts
pub mod Placing
pub mod Maps
