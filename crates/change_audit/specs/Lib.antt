-- In reading order: the sets of new names; requests with their answers; changes on the bricks; copies that were made, and skips;
-- then what the audits find: inputs in journals, ops and posts that were answered, the bricks of a change, the graphs of calls, the
-- calls that were answered well, the changes that were taken for entries, the sets of new names, one entry; one copy; lists of
-- cells.
pub mod Placed
pub mod Answered
pub mod Borne
pub mod Copied
pub mod Listed
pub mod Journals
pub mod Served
pub mod Bearing
pub mod CallGraphs
pub mod Acknowledged
pub mod Claims
pub mod Placing
pub mod Entries
pub mod Copying
pub mod Sources
pub mod Listings
