-- In reading order: the report of a log; the winds of each graph; replies by the numbers of their calls; the line that sums
-- a run up.
pub mod Reports
pub mod Counting
pub mod Numbers
pub mod Summaries
