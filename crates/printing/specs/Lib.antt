-- What the example programs share.
pub mod internal
