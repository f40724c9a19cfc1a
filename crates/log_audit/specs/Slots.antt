-- The last wind of each slot, and what a further line makes of it.
use Rattle.std.specs.Prelude.{◌≡◌, ℕ, ◌==◌, nat_lt, ◌&&◌, not, Bool, true, false, List, [], ◌∷◌, Option, Some, None, slice_index_or, if◌then◌else◌}
use Rattle.mount_log.specs.declared.logs.WindLine.{WindLine}
use Rattle.log_audit.specs.declared.slots.Turn.{Turn}

abbrev pub slot_at : List (Option Turn) → ℕ → Option Turn
slot_at slots n = slice_index_or slots n None

abbrev pub opening_of : WindLine → Turn
opening_of line = record { turn = line.wind.turn; graph = line.graph; call = line.call; pending = true }

-- the line ends this wind, which is open
abbrev pub is_end_of : Turn → WindLine → Bool
is_end_of last line = last.pending && ((last.turn == line.wind.turn) && ((last.graph == line.graph) && (last.call == line.call)))

-- a slot after a line of its own, None where the line cannot come
abbrev pub step : Option Turn → WindLine → Option Turn
step None line = if line.opened then Some (opening_of line) else None
step (Some last) line =
    if line.opened then (if not last.pending && nat_lt last.turn line.wind.turn then Some (opening_of line) else None)
    else (if is_end_of last line then Some (record last { pending = false }) else None)

-- the line's slot makes a step, and every other is as it was
pub record Takes (old : List (Option Turn)) (line : WindLine) (new : List (Option Turn)) : Type 0 where
  pub next : Turn
  pub own : step (slot_at old line.wind.slot) line ≡ Some next
  pub now : slot_at new line.wind.slot ≡ Some next
  pub others : (n : ℕ) → (n == line.wind.slot) ≡ false → slot_at new n ≡ slot_at old n

abbrev pub is_closed : Option Turn → Bool
is_closed None = true
is_closed (Some last) = not last.pending

abbrev pub are_closed : List (Option Turn) → Bool
are_closed [] = true
are_closed (last ∷ slots) = if is_closed last then are_closed slots else false
