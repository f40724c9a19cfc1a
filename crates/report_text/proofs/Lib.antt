pub mod Entries
pub mod Hex
pub mod Octal
