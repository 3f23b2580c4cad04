-- Laws that belong to no one function.
pub mod Depth
pub mod Halves
pub mod Building
pub mod LevelsBuilt
pub mod LevelZero
