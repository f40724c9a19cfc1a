pub mod Word
pub mod Winds
pub mod Rule
pub mod Calls
pub mod Steps
