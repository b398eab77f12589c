pub mod Kinds
pub mod Places
pub mod Faults
pub mod Laws
