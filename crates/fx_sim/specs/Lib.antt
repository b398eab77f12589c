pub mod Between
pub mod Fields
pub mod Laws
pub mod Output
pub mod Plain
pub mod Remaining
pub mod Samples
pub mod Simulation
