pub mod Guesses
pub mod Signs
