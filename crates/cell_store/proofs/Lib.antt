pub mod Copies
pub mod Edits
pub mod Entries
pub mod Listed
pub mod Looks
pub mod Orders
pub mod Places
pub mod Results
