-- In reading order: slots of winds; causes of what was sent; connections, and what events do to them; ends of winds; ties.
pub mod Slots
pub mod Caused
pub mod Linked
pub mod Ended
pub mod Tied
