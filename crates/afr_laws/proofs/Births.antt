-- All births of a cell give it one content, over every list of steps.
pub mod Born
pub mod Stages
pub mod Steps
