pub mod Command
pub mod Number
pub mod Operand
pub mod Words
