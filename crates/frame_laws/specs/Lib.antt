-- In reading order: the frames at or under a frame; what they await; the laws; and that their premises can be met.
pub mod Under
pub mod Resting
pub mod Laws
pub mod Witness
