pub mod Certificate
pub mod FirstFault
pub mod Inside
pub mod Laws
pub mod Lines
pub mod Opened
pub mod Reading
