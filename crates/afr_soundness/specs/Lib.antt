-- In reading order: what lock phases decide, and whom they accuse; who takes that; what is on its way to their bricks; what
-- a copy knows and puts in place, and what a confirmed clear says; who is free; unsettled changes, who is free on all of their
-- cells, that copies keep apart from them, and who has them.
pub mod Deciding
pub mod Takers
pub mod Lines
pub mod Runs
pub mod Replies
pub mod Replaced
pub mod Copied
pub mod Clears
pub mod Free
pub mod Unsettled
pub mod Later
pub mod Guarded
pub mod CopyApart
pub mod Applied
pub mod Agreeing
pub mod Posted
pub mod SettleDone
