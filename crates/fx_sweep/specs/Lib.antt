pub mod Target
pub mod Weights
pub mod Gains
pub mod Range
pub mod Swept
pub mod Steps
pub mod Ordered
pub mod Standing
