pub mod Grammar
pub mod Laws
pub mod Reading
pub mod TokenReading
pub mod Tokens
pub mod Writing
