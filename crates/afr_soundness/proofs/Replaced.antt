-- Replacements that were confirmed.
pub mod Steps
