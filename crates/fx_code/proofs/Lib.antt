mod FirstFault
pub mod Fitting
mod Floors
mod Joint
mod Kept
pub mod LaterInputs
mod NetRun
mod NetTerms
pub mod Placing
mod Whole
pub mod Words
