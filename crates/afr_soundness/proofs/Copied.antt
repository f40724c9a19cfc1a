-- What was fetched, and what sinks confirmed, stands while its transaction holds its lock.
pub mod Stores
pub mod Lines
pub mod Kept
pub mod Steps
