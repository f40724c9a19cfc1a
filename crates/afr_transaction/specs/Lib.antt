-- In reading order: what the replicas' rows say of a job's cells; the copies that a job needs; the job under way; the
-- lock phase; a read; copies; a change; a settling; how each job goes on after its copies and its locks; jobs without locks;
-- the turn of an answer or a copy; the begin; a transaction between two turns, and what its phases ask for; what a turn does
-- to the ledger; that requests have an encoding, and replies are within their bounds; the causes of I/O errors; and that an op
-- follows its mark.
pub mod Sound
pub mod Jobs
pub mod Txns
pub mod Locked
pub mod Reads
pub mod Parts
pub mod Copies
pub mod Changes
pub mod Settles
pub mod Copied
pub mod Ready
pub mod Listing
pub mod Polls
pub mod Answers
pub mod Begins
pub mod Shapes
pub mod Requests
pub mod Moves
pub mod Encodings
pub mod Replies
pub mod Causes
pub mod Ops
