-- Laws of runs in words.
pub mod Choosing
pub mod Waking
pub mod Histories
pub mod Moments
pub mod Turning
pub mod Beginning
pub mod examples
