-- In reading order: the events of calls; calls that are gathered.
pub mod Events
pub mod Gathering
