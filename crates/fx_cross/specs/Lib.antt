pub mod Cells
pub mod Laws
pub mod Lines
pub mod Rests
pub mod Table
pub mod Walks
pub mod WellLinked
