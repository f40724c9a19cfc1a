-- In reading order: what a brick keeps; how it answers requests; what controls do; the brick as a function of its
-- inputs; its laws: of all outputs, of waiters, of answers, of plain runs, of encodings. The functions of the code: code.
pub mod Waiting
pub mod Connections
pub mod Faulting
pub mod State
pub mod Locking
pub mod Serving
pub mod Controls
pub mod Machine
pub mod Journal
pub mod Laws
pub mod Waits
pub mod Answered
pub mod Plain
pub mod Encoded
pub mod code
