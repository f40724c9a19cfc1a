use Rattle.std.proofs.Common.{◌≡◌, ◌≤◌, ◌+◌, ◌-◌, ◌++◌, map, length, drop}
use Rattle.volfile.specs.TextLines.{words_of}
use Rattle.volfile.proofs.cuts.add_words.Given as goal

abbrev pub invariant-loop-at : goal.invariant-loop-at
invariant-loop-at l = (l.at ≤ length l.line + 1) × (map (λ w. w.now) l.found.items ++ words_of (drop l.at l.line) ≡ map (λ w. w.now) l.fn.found.items ++ words_of l.line)

abbrev pub decreases-loop-at : goal.decreases-loop-at
decreases-loop-at l = length l.line + 1 - l.at
