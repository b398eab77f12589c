pub mod Entries
pub mod Intervals
pub mod Matrix
