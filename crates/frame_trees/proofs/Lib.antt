pub mod Children
pub mod Staying
