pub mod Rule
pub mod Keys
pub mod Walks
