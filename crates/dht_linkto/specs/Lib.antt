pub mod Cursor
pub mod DirNames
pub mod Known
pub mod Laws
pub mod Search
pub mod Steps
