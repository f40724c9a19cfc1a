-- The wind lines of a log: each wind is opened once and ended at most once, after its opening and in the same graph and
-- call; and in a drained graph each is ended.
use Rattle.std.specs.Prelude.{◌≡◌, ℕ, ◌+◌, ◌<◌, ◌≤◌, ◌==◌, ◌&&◌, not, Bool, true, false, List, [], ◌∷◌, Some, slice_get, if◌then◌else◌}
use Rattle.xlator_law.specs.declared.winds.WindNo.{WindNo}
use Rattle.mount_log.specs.declared.logs.WindLine.{WindLine}

abbrev pub is_wind : WindNo → WindNo → Bool
is_wind a b = (a.slot == b.slot) && (a.turn == b.turn)

-- how often a wind was opened, and ended
abbrev pub times_opened : WindNo → List WindLine → ℕ
times_opened wind [] = 0
times_opened wind (line ∷ lines) = (if line.opened && is_wind wind line.wind then 1 else 0) + times_opened wind lines

abbrev pub times_ended : WindNo → List WindLine → ℕ
times_ended wind [] = 0
times_ended wind (line ∷ lines) = (if not line.opened && is_wind wind line.wind then 1 else 0) + times_ended wind lines

-- an end comes after an opening of the same wind in the same graph and call
pub record IsEndOf (lines : List WindLine) (end_at : ℕ) (end : WindLine) : Type 0 where
  pub opened_at : ℕ
  pub opening : WindLine
  pub earlier : opened_at < end_at
  pub there : slice_get lines opened_at ≡ Some opening
  pub is_opening : opening.opened ≡ true
  pub same_wind : opening.wind ≡ end.wind
  pub same_graph : opening.graph ≡ end.graph
  pub same_call : opening.call ≡ end.call

pub record WindsAreOnce (lines : List WindLine) : Type 0 where
  pub opened_once : (wind : WindNo) → times_opened wind lines ≤ 1
  pub ended_once : (wind : WindNo) → times_ended wind lines ≤ times_opened wind lines
  pub ends : (k : ℕ) (line : WindLine) → slice_get lines k ≡ Some line → line.opened ≡ false → IsEndOf lines k line

-- and each is ended: no graph has a frame left
pub record WindsAreBalanced (lines : List WindLine) : Type 0 where
  pub once : WindsAreOnce lines
  pub all_ended : (wind : WindNo) → times_ended wind lines ≡ times_opened wind lines

-- 4,294,967,295 winds were opened, so that there is none for a further one
abbrev pub openings : List WindLine → ℕ
openings [] = 0
openings (line ∷ lines) = (if line.opened then 1 else 0) + openings lines

abbrev pub NoWindIsLeft : List WindLine → Type 0
NoWindIsLeft lines = openings lines ≡ 4294967295
