-- Worked examples of the definitions: the rows of jobs, their order, and their rests.
pub mod JobRows
pub mod Order
pub mod Rests
