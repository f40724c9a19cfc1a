pub mod Keys
pub mod Putting
pub mod Numbers
pub mod Reading
pub mod Dropping
pub mod LastUsed
pub mod MostRecent
