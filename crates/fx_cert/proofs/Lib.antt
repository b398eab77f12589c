mod Again
mod First
mod Lengths
mod LineLaws
mod Loops
mod NumberLaws
mod Read
mod Sound
