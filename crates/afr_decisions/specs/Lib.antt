-- In reading order: who confirmed a post or settle, what a settling keeps, who goes on accusing, what later lock phases see of it;
-- decisions, which stand; a set of one replica; the order of locks and ops; all of it under the names of the rules.
pub mod Confirmed
pub mod Settlings
pub mod Staying
pub mod Shown
pub mod Stands
pub mod One
pub mod Asks
pub mod Guarded
