pub mod LaneMasks
pub mod MarkedBits
pub mod Pieces
