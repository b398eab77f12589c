pub mod Inequalities
pub mod BlockLaw
pub mod Negated
pub mod Starts
pub mod OneSide
pub mod TwoSides
pub mod Bounded
pub mod TotalLaw
pub mod Padded
pub mod PaddedNumbers
pub mod OneRow
pub mod AllTime
pub mod Growth
pub mod Kept
pub mod Lines
pub mod SoFar
mod Examples
