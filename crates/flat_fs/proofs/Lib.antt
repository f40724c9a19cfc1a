pub mod Called
pub mod Maps
pub mod Numbered
pub mod Outcomes
pub mod Walks
