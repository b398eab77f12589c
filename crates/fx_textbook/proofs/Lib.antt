pub mod TermCounts
pub mod TermSteps
