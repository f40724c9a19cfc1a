-- Lock phases that overtake each other, over every list of steps.
pub mod Behind
pub mod Steps
