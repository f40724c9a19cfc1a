-- Who was sound in the last lock phase of a cell keeps few accusers, over every list of steps.
pub mod Done
pub mod Accused
pub mod Moves
pub mod Steps
