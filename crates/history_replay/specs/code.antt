-- What the check of a trace asks of the flat file system, as the code makes it.
pub mod Claims
pub mod Cases
pub mod Runs
pub mod Shown
