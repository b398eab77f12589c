pub mod Continued
pub mod Faults
pub mod Kept
pub mod Numeral
pub mod Printed
