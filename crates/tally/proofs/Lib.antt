-- What the bells' totals add up to, and laws of the counts.
pub mod Counted
pub mod Sums
pub mod Tables
pub mod Totals
pub mod examples
