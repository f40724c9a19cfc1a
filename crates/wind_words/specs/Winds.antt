-- Lists of winds, and of losses.
use Rattle.std.specs.Prelude.{ℕ, ◌+◌, max, ◌==◌, ◌&&◌, if◌then◌else◌, List, [], ◌∷◌}
use Rattle.xlator_law.specs.declared.winds.WindNo.{WindNo}
use Rattle.wind_words.specs.declared.view.Loss.{Loss}

abbrev pub wind : ℕ → ℕ → WindNo
wind slot turn = record { slot = slot; turn = turn }

-- 1 where it is that wind, else 0
unfoldable pub one_of : WindNo → WindNo → ℕ
one_of w x = if (x.slot == w.slot) && (x.turn == w.turn) then 1 else 0

-- how often the wind is in the list
abbrev pub times : WindNo → List WindNo → ℕ
times w [] = 0
times w (x ∷ xs) = one_of w x + times w xs

-- the turn after the last turn of this slot in the list, 0 where the list has none
abbrev pub turn_after : ℕ → List WindNo → ℕ
turn_after slot [] = 0
turn_after slot (x ∷ xs) = if x.slot == slot then max (x.turn + 1) (turn_after slot xs) else turn_after slot xs

-- the greatest word that a loss of this slot saw, 0 where the list has none
abbrev pub highest_seen : ℕ → List Loss → ℕ
highest_seen slot [] = 0
highest_seen slot (x ∷ xs) = if x.wind.slot == slot then max x.word (highest_seen slot xs) else highest_seen slot xs
