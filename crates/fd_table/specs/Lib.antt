pub mod Fds
