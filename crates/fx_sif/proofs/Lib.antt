pub mod Agreement
pub mod Ascending
pub mod Denominators
pub mod Delays
pub mod Earlier
pub mod EarlierSums
pub mod EntriesOfRow
pub mod EntryCounts
mod FirstFault
pub mod EquationsAtScale
pub mod Following
mod InBlocks
pub mod Kept
pub mod Matches
pub mod LagSums
mod NoFault
pub mod OneScale
pub mod Placing
pub mod Recursion
pub mod RowSums
pub mod Summing
pub mod Uniqueness
mod Widest
