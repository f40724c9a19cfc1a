-- Who takes a change is sound or received a copy, over every list of steps.
pub mod Carry
pub mod Steps
