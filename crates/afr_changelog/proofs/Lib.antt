pub mod CommonBits
pub mod Convicted
pub mod SoundRows
