pub mod Chosen
pub mod Queues
pub mod Picked
pub mod Running
pub mod Chains
pub mod Places
pub mod Sent
pub mod Feeding
