pub mod Answered
pub mod Asked
pub mod Bounded
pub mod Counts
pub mod Descriptors
pub mod Follow
pub mod Lawful
pub mod Walks
