-- In reading order: one truth for each replica; who is out; locks and the connections on which they were granted; who
-- was asked and has confirmed; what was shown; the lock phase; what is sent, what an answer carries, and who is out by it;
-- what a phase keeps; with which mark a replica is lost; who is asked between two turns, and what a copy has to do.
pub mod Flags
pub mod Outs
pub mod Locks
pub mod Waves
pub mod Shown
pub mod Locking
pub mod Sending
pub mod Answers
pub mod Hearing
pub mod Tracked
pub mod Reached
pub mod Marks
pub mod Asked
pub mod CopyWork
