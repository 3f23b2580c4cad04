-- Worked examples: words of jobs that may hold others back, and rests.
pub mod Holders
pub mod Rests
