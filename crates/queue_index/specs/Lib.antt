pub mod Places
pub mod Queue
pub mod Whole
pub mod Rivals
pub mod Next
