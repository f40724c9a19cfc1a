-- In reading order: which reports there are, what their bytes are and where others are refused. The functions of the
-- code: code.
pub mod Reports
pub mod Readings
pub mod code
