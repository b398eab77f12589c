pub mod Alike
pub mod Continued
pub mod Digits
pub mod KeptLaws
mod Places
pub mod ReadingLaws
pub mod Stops
mod Units
