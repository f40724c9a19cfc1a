-- Who takes what a lock phase decides.
pub mod Asked
pub mod Steps
