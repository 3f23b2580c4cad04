-- Worked examples of the definitions: document 01's phrase P and its refusals, phrases wider than their bytes, phrases with a shift, bells with a rest, notes that break more than one rule, jobs, lengths, what is valid, and what fits its bytes.
pub mod Files
pub mod Phrases
pub mod Shifts
pub mod Rests
pub mod Orders
pub mod Shifting
pub mod Jobs
pub mod Lengths
pub mod Valid
pub mod Fitting
