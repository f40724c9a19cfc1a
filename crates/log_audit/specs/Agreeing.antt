-- What the last wind of each slot says of the winds of the lines so far.
use Rattle.std.specs.Prelude.{◌≡◌, ℕ, ◌<◌, ◌≤◌, ◌==◌, true, false, List, Option, Some, None, slice_get, length, if◌then◌else◌, MatchBool}
use Rattle.xlator_law.specs.declared.winds.WindNo.{WindNo}
use Rattle.mount_log.specs.Winds.{times_opened, times_ended, IsEndOf}
use Rattle.mount_log.specs.declared.logs.WindLine.{WindLine}
use Rattle.log_audit.specs.Slots.{slot_at}
use Rattle.log_audit.specs.declared.slots.Turn.{Turn}

-- the wind is the last of its slot: it was opened once, in that graph and call, and has ended or not
pub record IsLast (w : WindNo) (last : Turn) (lines : List WindLine) : Type 0 where
  pub opened : times_opened w lines ≡ 1
  pub ended : times_ended w lines ≡ (if last.pending then 0 else 1)
  pub place : ℕ
  pub opening : WindLine
  pub within : place < length lines
  pub there : slice_get lines place ≡ Some opening
  pub is_opening : opening.opened ≡ true
  pub wind : opening.wind ≡ w
  pub graph : opening.graph ≡ last.graph
  pub call : opening.call ≡ last.call

-- the wind is not the last of its slot: it has ended if it was opened, and was not if its turn is still to come
pub record IsOther (w : WindNo) (last : Turn) (lines : List WindLine) : Type 0 where
  pub once : times_opened w lines ≤ 1
  pub done : times_ended w lines ≡ times_opened w lines
  pub later : last.turn < w.turn → times_opened w lines ≡ 0

abbrev pub Agrees : WindNo → Option Turn → List WindLine → Type 0
Agrees w None lines = (times_opened w lines ≡ 0) × (times_ended w lines ≡ 0)
Agrees w (Some last) lines = MatchBool (last.turn == w.turn) (IsLast w last lines) (IsOther w last lines)

pub record Agree (slots : List (Option Turn)) (lines : List WindLine) : Type 0 where
  pub winds : (w : WindNo) → Agrees w (slot_at slots w.slot) lines
  pub ends : (k : ℕ) (line : WindLine) → slice_get lines k ≡ Some line → line.opened ≡ false → IsEndOf lines k line
