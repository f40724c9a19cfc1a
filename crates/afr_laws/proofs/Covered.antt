-- Requests that need a lock, and the locks that the brick holds: locks that moves keep, grants, requests that are sent,
-- lines.
pub mod Kept
pub mod Granted
pub mod Sent
pub mod Asked
pub mod Lines
