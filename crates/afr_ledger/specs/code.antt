-- What the code keeps beside the changes.
pub mod Places
