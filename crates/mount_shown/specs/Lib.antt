pub mod Bridge
pub mod Dropping
pub mod Known
pub mod Pending
pub mod Replies
