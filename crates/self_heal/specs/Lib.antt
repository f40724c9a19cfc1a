-- In reading order: the records of a copy; the copy, step by step; what was handed in and asked for; the work left; the
-- laws; a copy between two turns.
pub mod Records
pub mod Runs
pub mod Handed
pub mod Work
pub mod Laws
pub mod Turning
