-- The events of a log that give replies, and numbers that rise.
use Rattle.std.specs.Prelude.{◌≡◌, ℕ, zero, suc, ◌+◌, ◌<◌, ◌≤◌, List, length, get_or, slice_set}
use Rattle.mount_log.specs.Submissions.{event_of_reply}
use Rattle.mount_log.specs.declared.logs.ReplyLine.{ReplyLine}

-- the event of the reply to each of so many calls
pub record HasReplyEvents (count : ℕ) (replies : List ReplyLine) (events : List ℕ) : Type 0 where
  pub long : length events ≡ count
  pub each : (k : ℕ) → k < count → get_or events k 0 ≡ event_of_reply replies (k + 1)

-- the event of the call of a number, from 1
abbrev pub set_event : List ℕ → ℕ → ℕ → List ℕ
set_event events zero event = events
set_event events (suc k) event = slice_set events k event

abbrev pub AreRising : List ℕ → Type 0
AreRising numbers = (i j : ℕ) → i ≤ j → j < length numbers → get_or numbers i 0 ≤ get_or numbers j 0

-- the numbers of a list that are below a bound are those before this place
pub record IsCut (numbers : List ℕ) (bound at : ℕ) : Type 0 where
  pub within : at ≤ length numbers
  pub below : (k : ℕ) → k < at → get_or numbers k 0 < bound
  pub above : (k : ℕ) → at ≤ k → k < length numbers → bound ≤ get_or numbers k 0
