use Rattle.std.proofs.Common.{◌≡◌, ◌<◌, ◌≤◌, refl, sym, subst, ◌∙◌, arith}
use Rattle.std.specs.Prelude.{ℕ, List, ◌+◌, length, slice_get}
use Rattle.std.proofs.lemmas.Option.{slice_get_within}
use Rattle.script_lang.specs.declared.scripts.ControlLine.{ControlLine}
use Rattle.script_lang.specs.declared.scripts.Phase.{Phase}
use Rattle.run_audit.specs.Controlled.{IsPhaseCarried}
use Rattle.mount_log.proofs.Lists.{each_next}
use Rattle.run_audit.proofs.carried.phases_are_carried.Goals as goal

pub loop-k-preserved : goal.loop-k-preserved
loop-k-preserved c =
    each_next (λ (n : ℕ) (phase : Phase). IsPhaseCarried c.args.log.now c.args.tables.now c.args.notes.now n phase.controls) c.args.script.now.phases c.loop-k.k c.in-Some.phase.now (sym c.in-Some.ensures)
    (subst (λ (l : List ControlLine). IsPhaseCarried c.args.log.now c.args.tables.now c.args.notes.now c.loop-k.k l) c.as_slice.ensures (c.in_ok-is_phase_carried.ensures.0 c.if-not-branch.false)) c.loop-k.invariant

pub returns : goal.returns
returns c = (λ _ k phase is. c.loop-k.invariant k phase (let lt = slice_get_within c.args.script.now.phases k phase is in omega (arith, lt, c.loop-k-test.false, c.len-k-end.ensures)) is, λ _. refl)

pub returns-then-not-branch : goal.returns-then-not-branch
returns-then-not-branch c = (
  λ no. absurd cc,
  λ all. sym c.if-not-branch.true
      ∙ c.in_ok-is_phase_carried.ensures.1
      (subst (λ (l : List ControlLine). IsPhaseCarried c.args.log.now c.args.tables.now c.args.notes.now c.loop-k.k l) (sym c.as_slice.ensures) (all c.loop-k.k c.in-Some.phase.now (sym c.in-Some.ensures))),
)
