pub mod Checksum
pub mod Marks
pub mod PerCall
pub mod Recipe
pub mod Runs
pub mod Sweeping
pub mod Words
