-- What a granted lock keeps in place, over every list of steps.
pub mod Alone
pub mod Calm
pub mod Own
pub mod Stores
pub mod Rows
pub mod Gathers
pub mod Steps
