pub mod Kinds
pub mod Fitting
pub mod Trees
