-- In reading order: the unsettled changes and the cells that they touch; the ledger. What the code keeps: code.
pub mod Changes
pub mod Ledger
pub mod code
