pub mod Locks
pub mod Leaving
pub mod Fate
pub mod Keys
pub mod Walks
