pub mod Followed
pub mod Knowing
pub mod Left
pub mod Orders
pub mod Runs
