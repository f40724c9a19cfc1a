-- The numbers of changes in copies, over every list of steps: contents, one store, one line, one brick, the table of
-- changes, what is sent, what is fetched, steps, and what follows.
pub mod Contents
pub mod Stores
pub mod Lines
pub mod Served
pub mod Moves
pub mod Tables
pub mod Asks
pub mod Runs
pub mod Steps
pub mod Follows
