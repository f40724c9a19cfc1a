pub mod Messages
pub mod Ends
