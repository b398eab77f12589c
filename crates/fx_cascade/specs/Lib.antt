pub mod Cascades
pub mod Sections
