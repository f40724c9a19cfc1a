pub mod Bytes
pub mod Conviction
pub mod Counters
pub mod Masks
pub mod Soundness
