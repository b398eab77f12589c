pub mod AreLines
pub mod FaultLines
pub mod Joined
pub mod PrintedLines
pub mod PrintedParts
pub mod ReportedLines
pub mod Rows
pub mod VerdictLines
