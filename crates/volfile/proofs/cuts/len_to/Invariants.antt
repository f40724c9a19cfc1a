use Rattle.std.proofs.Common.{◌≡◌, ◌≤◌, ◌+◌, ◌-◌, ◌==◌, length, drop}
use Rattle.volfile.specs.TextLines.{front_len}
use Rattle.volfile.proofs.cuts.len_to.Given as goal

abbrev pub invariant-loop-at : goal.invariant-loop-at
invariant-loop-at l = (l.at ≤ length l.bytes) × (l.at + front_len (λ b. b == l.stop) (drop l.at l.bytes) ≡ front_len (λ b. b == l.stop) l.bytes)

abbrev pub decreases-loop-at : goal.decreases-loop-at
decreases-loop-at l = length l.bytes - l.at
