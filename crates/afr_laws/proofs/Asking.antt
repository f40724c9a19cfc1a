-- The request that a transaction waits for is the one that its phase sends, over every list of steps.
pub mod Carries
pub mod Sent
pub mod Replies
pub mod Steps
pub mod Answers
