pub mod Alone
mod Bounding
mod Ending
mod Firsts
mod Holding
mod LeastSums
mod Made
mod Placed
mod Listed
mod Scaling
mod Sums
mod Tried
mod Walked
