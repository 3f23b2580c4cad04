-- Laws of playings: of their bytes and ranges, and what is promised of one that was worked out.
pub mod Playings
pub mod Admitted
pub mod Outcomes
pub mod examples
