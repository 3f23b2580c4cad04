-- Laws of a playing that is worked out.
pub mod Jobs
