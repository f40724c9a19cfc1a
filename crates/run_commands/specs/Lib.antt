-- In reading order: the run of a seed; what was written of a run; what else a command did.
pub mod Seeds
pub mod Written
pub mod CarriedOut
