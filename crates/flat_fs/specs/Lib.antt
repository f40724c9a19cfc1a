pub mod Codes
pub mod Edits
pub mod Mount
pub mod Outcomes
pub mod Walks
