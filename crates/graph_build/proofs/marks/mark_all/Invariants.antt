use Rattle.std.proofs.Common.{◌≡◌, ◌≤◌, ◌||◌, ℕ, length, drop}
use Rattle.graph_build.specs.Marks.{at}
use Rattle.graph_build.specs.PlanRules.{has_place, repeats}
use Rattle.graph_build.proofs.MarkLemmas.{count_true}
use Rattle.graph_build.proofs.marks.mark_all.Given as goal

abbrev pub invariant-loop-number : goal.invariant-loop-number
invariant-loop-number l =
    (length l.flags ≡ 256) × (repeats (at l.flags) (drop l.number-index l.numbers) ≡ repeats (at l.fn.flags) l.numbers)
    × ((q : ℕ) → (has_place q (drop l.number-index l.numbers) || at l.flags q) ≡ (has_place q l.numbers || at l.fn.flags q)) × (l.number-index ≤ count_true l.flags)
