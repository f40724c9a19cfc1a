-- In reading order: commands; limits, plans and refusals of a text; what was read; what `check` writes; what a replay says of
-- a text, and what is written of it; the head of a stream.
pub mod Commands
pub mod Limits
pub mod Plans
pub mod Refusals
pub mod Readings
pub mod Checks
pub mod Replays
pub mod Verdicts
pub mod Heads
