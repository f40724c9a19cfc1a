use Rattle.std.specs.Prelude.{ℕ, ◌≡◌, ◌<◌, ◌≤◌, true, Some, length, map, slice_get}
use Rattle.mount_log.specs.declared.logs.WindLine.{WindLine}
use Rattle.mount_log.specs.Switches.{IsCounted}
use Rattle.mount_log.specs.Ties.{do_rise}
use Rattle.line_audit.specs.Tied.{IsWindFound}
use Rattle.line_audit.proofs.tied_winds.winds_are_tied.Given as goal

abbrev pub invariant-loop-k : goal.invariant-loop-k
invariant-loop-k l = ((i : ℕ) (line : WindLine) → i < l.k → slice_get l.log.winds i ≡ Some line → IsWindFound l.log l.calls line) × (IsCounted l.log.events l.passed
    × (do_rise 1 (length l.log.events) (map (λ (x : WindLine). x.event) l.log.winds) ≡ true → (line : WindLine) → slice_get l.log.winds l.k ≡ Some line → l.passed.next ≤ line.event))
