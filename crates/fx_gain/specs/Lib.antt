pub mod Peak
pub mod Lengths
pub mod Enclosing
pub mod Inside
pub mod Rows
pub mod Weights
pub mod Peaks
pub mod Laws
