-- In reading order: a job stays what it is; what it knows of its replicas, and who is out; decisions; when a split has no cause;
-- that requests end; how often a job begins again; and that jobs end.
pub mod Own
pub mod Granted
pub mod Outs
pub mod Laws
pub mod Free
pub mod Work
pub mod Splits
pub mod Lists
pub mod Rounds
pub mod Ends
pub mod Runs
pub mod RunEnds
