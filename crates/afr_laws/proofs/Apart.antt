-- Granted locks of a brick do not conflict, over every list of steps: two locks of one list, grants on their way, steps.
pub mod Pairs
pub mod Outputs
pub mod Back
pub mod Steps
