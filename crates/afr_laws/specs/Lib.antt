-- In reading order: rows by counts; what holds of every request at a brick; what steps leave of a transaction; numbers
-- of messages; requests on their way; held locks; connections; what is waited for; grants, and grants apart; requests
-- that need a lock, and who writes alone; numbers of changes; what exactly is asked; whose a change is; numbers that
-- rise; copies; what their numbers tell; fresh cells; what locks are for; rows that stand; lock phases that overtake, what they
-- saw, who was sound in them, who may take a change; births; lines and locks together.
pub mod Rows
pub mod Senders
pub mod Txns
pub mod Numbered
pub mod Flights
pub mod Locks
pub mod Connections
pub mod Waiting
pub mod Grants
pub mod Apart
pub mod Covered
pub mod Alone
pub mod Drawn
pub mod Asking
pub mod OwnChanges
pub mod Newest
pub mod Copies
pub mod Numbers
pub mod Fresh
pub mod Work
pub mod Standing
pub mod OwnPhases
pub mod Overtaken
pub mod Seen
pub mod Sound
pub mod Ready
pub mod OneBirth
pub mod HeldWhole
pub mod Guarded
