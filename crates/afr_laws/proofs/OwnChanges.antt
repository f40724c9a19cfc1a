-- What is known of transactions' own changes, over every list of steps: a transaction by itself, replies, turns, steps.
pub mod Carries
pub mod Replies
pub mod Turns
pub mod Steps
