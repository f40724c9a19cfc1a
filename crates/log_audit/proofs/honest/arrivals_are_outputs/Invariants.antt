use Rattle.std.proofs.Common.{ℕ, ◌<◌, ◌≡◌}
use Rattle.std.specs.Prelude.{Some, slice_get}
use Rattle.brick_machine.specs.Journal.{Journal}
use Rattle.log_audit.specs.Honest.{IsOfBrick}
use Rattle.log_audit.proofs.honest.arrivals_are_outputs.Given as goal

abbrev pub invariant-loop-brick : goal.invariant-loop-brick
invariant-loop-brick l = (k : ℕ) (b : Journal) → k < l.brick → slice_get l.bricks k ≡ Some b → IsOfBrick l.log k b
