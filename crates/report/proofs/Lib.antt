-- Laws of the delivery of a report, and of its text.
pub mod Delivery
pub mod Texts
pub mod Totals
pub mod Shifting
pub mod examples
