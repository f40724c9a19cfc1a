-- In reading order: what nodes hand to one another; the clients of a graph; the descriptors of requests.
pub mod Items
pub mod Clients
pub mod Descriptors
