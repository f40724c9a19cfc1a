pub mod Cells
pub mod Vacancy
pub mod Stack
pub mod Changes
pub mod Sound
pub mod Moves
pub mod Reached
pub mod Following
