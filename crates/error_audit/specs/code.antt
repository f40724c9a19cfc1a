-- The functions of the code, one for one.
pub mod Searches
