pub mod Calls
pub mod Rising
pub mod Resting
pub mod Witness
