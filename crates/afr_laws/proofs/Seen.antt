-- What a lock phase saw, over every list of steps.
pub mod Applied
pub mod Steps
