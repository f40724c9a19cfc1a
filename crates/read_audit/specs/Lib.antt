-- In reading order: what answers rest on; which objects they are of, and lists; what errors rest on; what changes rest on; then what the
-- audits find: one content, one answer, one reply; one name; one error; one entry.
pub mod Read
pub mod Names
pub mod Errors
pub mod Taken
pub mod Fetching
pub mod Showing
pub mod Replying
pub mod Naming
pub mod Erring
pub mod Taking
