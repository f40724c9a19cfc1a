pub mod Calls
pub mod Counting
pub mod Graphs
pub mod Numbers
pub mod Sets
