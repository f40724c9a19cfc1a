pub mod Bytes
pub mod Hashes
pub mod Layouts
