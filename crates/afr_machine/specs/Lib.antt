-- In reading order: replicas and cells; what a brick keeps and how requests change it; the lines, the locks, the brick;
-- changes, lock phases, transactions; the state; births; what is sent, what an answer makes, the turns of transactions;
-- the steps.
pub mod Replicas
pub mod Touching
pub mod Copies
pub mod Requests
pub mod Locks
pub mod Bricks
pub mod Changes
pub mod Phases
pub mod Transactions
pub mod States
pub mod Births
pub mod Sending
pub mod Answering
pub mod Turns
pub mod Steps
pub mod Moves
