pub mod Tables
pub mod Keeping
pub mod BrickMoves
pub mod Adopted
