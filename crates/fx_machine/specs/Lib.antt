pub mod Marks
pub mod Moments
pub mod Prepared
pub mod Standing
