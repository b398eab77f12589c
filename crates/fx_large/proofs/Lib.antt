pub mod DrawnSections
pub mod FirstMoments
pub mod JobFilter
pub mod RunsSoFar
pub mod Steps
