-- In reading order: the log; the scripts that are run; lines of a script; submissions and replies; the graphs of a run; winds;
-- the procedure of a request; events by their numbers; the turns of sessions; phases; what is armed; controls; when a log
-- follows its script; connections; locks; causes of I/O errors; how lines are tied to events; what is sent to connect graphs
-- and for controls. Then what the functions that look things up go by: arrivals that are outputs; heads of what arrives, and by
-- its first units; switches so far; the graphs of calls.
pub mod Logs
pub mod Scripts
pub mod Lines
pub mod Submissions
pub mod Graphs
pub mod Winds
pub mod Arrivals
pub mod Procedures
pub mod Events
pub mod Turns
pub mod Phases
pub mod Arms
pub mod Controls
pub mod Follows
pub mod Connections
pub mod Locks
pub mod Causes
pub mod Ties
pub mod Connects
pub mod Outputs
pub mod Heads
pub mod FirstUnits
pub mod Switches
pub mod CallGraphs
