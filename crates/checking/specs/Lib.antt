-- The check of a phrase file: its verdict, the result that carries it, and the promise about every run.
pub mod Checking
pub mod Certain
