-- The openings and ends of winds over a run, in order. Each wind is opened once at most. It is ended once
-- at most, after its opening and in the graph and call of its opening. Ours.
use Rattle.std.specs.Prelude.{ℕ, ◌≡◌, ◌==◌, ◌&&◌, Bool, true, false, not, cond, List, [], ◌∷◌, ◌++◌, count_by}
use Rattle.std.specs.List.{list_any}
use Rattle.xlator_law.specs.declared.winds.WindNo.{WindNo}
use Rattle.frame_stack.specs.Stack.{Line}

-- a wind is opened, or ended, in this graph and call
pub record Move : Type 0 where
  pub wind : WindNo
  pub graph : ℕ
  pub call : ℕ
  pub opened : Bool

-- the line of the move
abbrev pub line_of : Move → Line
line_of m = (m.wind, m.call, m.opened)

abbrev pub is_wind : WindNo → WindNo → Bool
is_wind a b = (a.slot == b.slot) && (a.turn == b.turn)

abbrev pub is_opening : WindNo → Move → Bool
is_opening w m = m.opened && is_wind w m.wind

abbrev pub is_ending : WindNo → Move → Bool
is_ending w m = not m.opened && is_wind w m.wind

-- whether m opens the wind that e ends, in the same graph and call
abbrev pub is_opening_of : Move → Move → Bool
is_opening_of e m = is_opening e.wind m && ((m.graph == e.graph) && (m.call == e.call))

-- whether the move may come after those that passed
abbrev pub IsNextAs : Bool → List Move → Move → Type 0
IsNextAs true passed m = list_any (is_opening m.wind) passed ≡ false
IsNextAs false passed m = (list_any (is_opening_of m) passed ≡ true) × (list_any (is_ending m.wind) passed ≡ false)

abbrev pub AreOrderly : List Move → List Move → Type 0
AreOrderly passed [] = Unit {0}
AreOrderly passed (m ∷ ms) = IsNextAs m.opened passed m × AreOrderly (passed ++ m ∷ []) ms

-- the openings among them, in order
abbrev pub openings : List Move → List Move
openings [] = []
openings (m ∷ ms) = cond m.opened (m ∷ openings ms) (openings ms)

abbrev pub opens_in : ℕ → Move → Bool
opens_in g m = m.opened && (m.graph == g)

abbrev pub ends_in : ℕ → Move → Bool
ends_in g m = not m.opened && (m.graph == g)

-- how many winds were opened in a graph, and how many were ended there
abbrev pub opened_in : ℕ → List Move → ℕ
opened_in g ms = count_by (opens_in g) ms

abbrev pub ended_in : ℕ → List Move → ℕ
ended_in g ms = count_by (ends_in g) ms
