pub mod Report
pub mod Targets
pub mod Verdict
