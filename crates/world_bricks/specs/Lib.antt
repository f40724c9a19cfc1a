-- In reading order: the generator of a seed; the bricks with their lines; what is chosen among the events that are enabled, and
-- what is picked; worlds and their events; the run of a seed; what bricks are fed with.
pub mod Schedules
pub mod Lines
pub mod Choices
pub mod Worlds
pub mod Runs
pub mod Feeding
