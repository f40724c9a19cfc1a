use Rattle.std.specs.Prelude.{ℕ, ◌≡◌, ◌<◌, Some, slice_get}
use Rattle.script_lang.specs.declared.scripts.Phase.{Phase}
use Rattle.run_audit.specs.Controlled.{IsPhaseCarried}
use Rattle.run_audit.proofs.carried.phases_are_carried.Given as goal

abbrev pub invariant-loop-k : goal.invariant-loop-k
invariant-loop-k l = (i : ℕ) (phase : Phase) → i < l.k → slice_get l.script.phases i ≡ Some phase → IsPhaseCarried l.log l.tables l.notes i phase.controls
