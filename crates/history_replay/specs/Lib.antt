pub mod Reports
pub mod Traces
pub mod code
