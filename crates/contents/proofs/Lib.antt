pub mod Bytes
pub mod Keyed
pub mod Replaced
pub mod SameNames
pub mod RisingNames
pub mod Orders
pub mod HalfSteps
pub mod Edited
