-- In reading order: the headline; a run that stopped.
pub mod Headline
pub mod Stopped
