pub mod Asking
pub mod Births
pub mod Costs
pub mod Endings
pub mod Holds
pub mod Homes
pub mod Links
pub mod Places
