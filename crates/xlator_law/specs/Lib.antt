pub mod Law
pub mod Frames
pub mod Open
pub mod Samples
pub mod Numbers
