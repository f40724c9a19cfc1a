pub mod Ended
pub mod Known
