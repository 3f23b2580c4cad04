-- What an accepted result promises, and which numbers and places are written.
pub mod PerJob
pub mod Accepted
pub mod Bounds
pub mod Promise
pub mod Certain
pub mod Refusals
pub mod examples
