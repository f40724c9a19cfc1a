-- In reading order: sets of small numbers; how far the sessions are; the calls; the names of bricks; what may be armed; the controls
-- of a phase; what decides what is due; which bricks are closed; the bricks of a plan; which fops change bytes.
pub mod SmallSets
pub mod Sessions
pub mod OpenCalls
pub mod Naming
pub mod Arming
pub mod PhaseControls
pub mod Agendas
pub mod Closing
pub mod PlanBricks
pub mod Fops
