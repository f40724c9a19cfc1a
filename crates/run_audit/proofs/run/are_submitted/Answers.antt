use Rattle.std.proofs.Common.{◌≡◌, sym, subst}
use Rattle.std.specs.Prelude.{ℕ, List, length}
use Rattle.run_audit.specs.CallPhases.{AreInPhases}
use Rattle.run_audit.proofs.run.are_submitted.Goals as goal

pub returns : goal.returns
returns c = (
  λ yes.
      subst (λ (l : List ℕ). AreInPhases l (length c.args.log.now.events) c.args.calls.now) c.as_slice.ensures
      (subst (λ (n : ℕ). AreInPhases c.as_slice.result.now n c.args.calls.now) c.len.ensures (c.are_in_phases.ensures.0 yes)),
  λ all. c.are_in_phases.ensures.1
      (subst (λ (n : ℕ). AreInPhases c.as_slice.result.now n c.args.calls.now) (sym c.len.ensures)
      (subst (λ (l : List ℕ). AreInPhases l (length c.args.log.now.events) c.args.calls.now) (sym c.as_slice.ensures) all)),
)
