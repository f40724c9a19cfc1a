-- Only a lock phase that wrote leaves accusers and changes, over every list of steps.
pub mod Phased
pub mod Turns
pub mod Phases
pub mod Known
pub mod Moves
pub mod Steps
