pub mod Limits
pub mod Planning
pub mod ReportLines
pub mod VerdictLemmas
