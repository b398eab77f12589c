pub mod Ascending
pub mod Front
pub mod TenPowers
