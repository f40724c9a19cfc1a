-- Copies keep apart from unsettled changes.
pub mod Without
pub mod Static
pub mod Steps
