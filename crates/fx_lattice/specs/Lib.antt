pub mod Exact
pub mod Lattice
pub mod Operations
pub mod StepDown
pub mod Structure
