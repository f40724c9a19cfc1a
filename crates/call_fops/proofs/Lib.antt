pub mod Bounded
pub mod Components
pub mod Counted
pub mod Descriptors
pub mod Lawful
pub mod Legs
pub mod Moves
pub mod Offsets
