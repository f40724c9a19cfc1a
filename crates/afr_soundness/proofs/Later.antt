-- Later lock phases and unsettled changes.
pub mod Quiet
pub mod Steps
