-- Who holds a lock writes alone: connected graphs, requests that are late, locks beside each other.
pub mod Connected
pub mod Late
pub mod Steps
pub mod Holder
