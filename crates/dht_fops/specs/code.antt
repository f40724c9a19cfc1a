-- What the states of the code mean.
pub mod Begins
pub mod Ended
pub mod Fops
pub mod Purposes
pub mod Turns
pub mod Waits
pub mod Within
