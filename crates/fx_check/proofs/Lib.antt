mod FirstFailures
mod Outputs
mod Padding
mod Parting
mod Steps
mod Sweeps
