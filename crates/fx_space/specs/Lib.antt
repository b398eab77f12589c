pub mod Matrices
pub mod Space
