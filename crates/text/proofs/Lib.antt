-- Laws of text in a buffer.
pub mod Writing
pub mod Decimal
pub mod Lengths
