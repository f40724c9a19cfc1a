-- What the code keeps while it reads.
pub mod Readings
pub mod Sessions
