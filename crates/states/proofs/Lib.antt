-- Laws of sets as bits, of the words of a state, of a sorted list that takes an element, of two lists side by side, and of the words that a copy, a start, a
-- merge or a restored front leaves.
pub mod Bits
pub mod Contents
pub mod Sorting
pub mod Pairs
pub mod Frames
pub mod Copies
pub mod Starts
pub mod Merges
pub mod Restoring
