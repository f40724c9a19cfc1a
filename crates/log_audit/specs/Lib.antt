-- In reading order: winds of a slot that follow one another; the last wind of each slot; what the winds say so far; prefixes;
-- arrivals that are timely; honest arrivals; lines in order; replies; lines that can be armed; calls.
pub mod Following
pub mod Slots
pub mod Agreeing
pub mod Prefixes
pub mod Arriving
pub mod Honest
pub mod Submitted
pub mod Replied
pub mod Armed
pub mod Called
