-- In reading order: connections; the evidence of I/O errors, and what is found of it at places; locks, and what was shown with
-- them; what is looked up; where the searches look; a brick that was never connected. The functions of the code: code.
pub mod Opened
pub mod Evidence
pub mod AtPlaces
pub mod LockTable
pub mod Showing
pub mod IoCauses
pub mod Finding
pub mod Never
pub mod code
