use Rattle.std.specs.Prelude.{ℕ, ◌≡◌, ◌<◌, Some, slice_get}
use Rattle.script_lang.specs.declared.scripts.Phase.{Phase}
use Rattle.run_audit.specs.Timed.{ArePhaseTimely}
use Rattle.run_audit.proofs.moments.are_timely.Given as goal

abbrev pub invariant-loop-k : goal.invariant-loop-k
invariant-loop-k l = (i : ℕ) (phase : Phase) → i < l.k → slice_get l.script.phases i ≡ Some phase → ArePhaseTimely l.script l.log l.notes i phase.controls
