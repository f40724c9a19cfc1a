-- In reading order: what is judged; the events of replies; lengths of the history.
pub mod Judged
pub mod Events
pub mod Lengths
