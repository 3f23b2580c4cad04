-- What a host gets.
pub mod Host
