pub mod Designs
pub mod Large
pub mod Laws
pub mod Peaks
pub mod Structures
