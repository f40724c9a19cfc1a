-- In reading order: who goes on accusing a replica; what a decision finds at each replica; the adopted changes of a cell and
-- what they leave; good copies.
pub mod Staying
pub mod Spread
pub mod Adopted
pub mod Good
pub mod Found
pub mod Naming
pub mod Lasting
pub mod Coming
pub mod Reading
pub mod Verdicts
pub mod Durable
pub mod Fitting
pub mod Guarded
pub mod Present
pub mod Firm
pub mod Earlier
pub mod Split
