mod FoundLines
pub mod Joined
