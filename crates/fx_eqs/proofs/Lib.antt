pub mod Denominators
pub mod Distinct
mod Examples
pub mod ExactRows
pub mod Expanding
mod FirstFault
pub mod Lattices
pub mod Matrices
pub mod NoFault
pub mod Parts
pub mod Recursions
pub mod SystemsFit
pub mod TermValues
pub mod TextbookRuns
