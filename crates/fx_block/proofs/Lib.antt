mod Wrapping
mod JointRun
mod JointNet
mod AllTime
mod Pairs
mod Bounded
mod Passing
mod FirstFailure
mod Examples
pub mod Raising
pub mod Padding
pub mod Places
mod Raised
mod Ended
mod Made
