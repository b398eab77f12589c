mod FirstForm
mod NeverRefused
mod Outputs
mod Rows
mod SecondForm
mod Transposed
mod WithoutFeedback
