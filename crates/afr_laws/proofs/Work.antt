-- The locks of a transaction are those of its work, over every list of steps.
pub mod Same
pub mod Turns
pub mod Replies
pub mod Known
