pub mod Draws
pub mod Job
pub mod Runs
pub mod Sections
pub mod Summaries
