pub mod Candidates
pub mod Designs
pub mod First
pub mod Lengths
pub mod Made
pub mod Search
pub mod Structures
pub mod Targets
