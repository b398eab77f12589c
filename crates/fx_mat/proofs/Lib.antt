pub mod Grid
pub mod IntervalPlaces
pub mod Places
pub mod Steps
pub mod Sums
