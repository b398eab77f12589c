pub mod Completeness
pub mod NumberWords
pub mod PlainForm
pub mod ToolReads
