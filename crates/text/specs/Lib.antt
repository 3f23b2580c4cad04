-- Text: bytes, decimal numbers, names of keys.
pub mod Bytes
pub mod Decimal
pub mod Keys
pub mod internal
