use Rattle.std.specs.Prelude.{ℕ, ◌<◌}
use Rattle.run_audit.specs.Counting.{IsAnsweredAt}
use Rattle.run_audit.proofs.answered.each_is_answered.Given as goal

abbrev pub invariant-loop-i : goal.invariant-loop-i
invariant-loop-i l = (j : ℕ) → j < l.i → IsAnsweredAt l.acts l.answers j
