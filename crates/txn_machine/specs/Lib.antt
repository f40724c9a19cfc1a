-- In reading order: requests as the machine has them; the record of a transaction; what a transaction keeps between two turns;
-- the moment of a turn, and the laws, of a turn and of a run; that requests may be sent one after another; the laws of copies;
-- what a copy leaves; and that jobs with copies end.
pub mod Asks
pub mod Records
pub mod Works
pub mod Guards
pub mod Runs
pub mod Witness
pub mod Sent
pub mod Copies
pub mod Leaves
pub mod Ends
