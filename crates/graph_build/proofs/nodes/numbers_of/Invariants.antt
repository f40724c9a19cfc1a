use Rattle.std.proofs.Common.{◌≡◌, ◌≤◌, ◌-◌, ℕ, None, length, drop, get_or}
use Rattle.graph_build.specs.Plans.{number_from}
use Rattle.graph_build.proofs.NumberLemmas.{or_before}
use Rattle.graph_build.proofs.nodes.numbers_of.Given as goal

abbrev pub invariant-loop-number : goal.invariant-loop-number
invariant-loop-number l =
    (l.number ≤ length l.sets) × (length l.numbers ≡ 256)
    × ((q : ℕ) → or_before (number_from l.number (drop l.number l.sets) q) (get_or l.numbers q None) ≡ number_from 0 l.sets q)

abbrev pub decreases-loop-number : goal.decreases-loop-number
decreases-loop-number l = length l.sets - l.number
