pub mod Apart
pub mod Drawn
pub mod Least
pub mod Places
pub mod Room
pub mod Steps
