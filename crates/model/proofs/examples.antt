-- Worked examples of the definitions: document 01's marked phrases, and more.
pub mod Marked
pub mod Cautions
pub mod LatestStarts
pub mod Successors
pub mod Rests
pub mod Runs
pub mod Instances
pub mod Playings
pub mod Clockworks
