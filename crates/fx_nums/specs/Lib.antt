pub mod Arithmetic
pub mod Enclosing
pub mod Fraction
pub mod Interval
pub mod Products
pub mod Signs
pub mod Whole
