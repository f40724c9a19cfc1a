-- In reading order: notes of a run; numbers of events; requests by their numbers; controls before one request; controls, their
-- moments, and what was sent for them; the phases of calls; what shows a run.
pub mod Noted
pub mod Counting
pub mod Numbered
pub mod InLine
pub mod Timed
pub mod SentFor
pub mod Controlled
pub mod CallPhases
pub mod Shown
