pub mod Frames
pub mod Open
