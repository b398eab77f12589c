mod NeverRefused
mod Outputs
mod Rows
