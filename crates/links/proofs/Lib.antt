-- Laws of the spare words of a state.
pub mod Spare
