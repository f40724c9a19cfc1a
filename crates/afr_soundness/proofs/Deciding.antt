-- What lock phases decide, and whom they accuse by that.
pub mod Kept
pub mod Steps
pub mod Whose
