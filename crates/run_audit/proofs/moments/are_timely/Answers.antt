use Rattle.std.proofs.Common.{◌≡◌, ◌<◌, ◌≤◌, sym, subst, ◌∙◌, arith}
use Rattle.std.specs.Prelude.{ℕ, List, ◌+◌, ◌⊎◌, length, slice_get}
use Rattle.std.proofs.lemmas.Option.{slice_get_within}
use Rattle.script_lang.specs.declared.scripts.ControlLine.{ControlLine}
use Rattle.script_lang.specs.declared.scripts.Phase.{Phase}
use Rattle.run_audit.specs.Timed.{ArePhaseTimely}
use Rattle.mount_log.proofs.Lists.{each_next}
use Rattle.run_audit.proofs.moments.are_timely.Goals as goal

pub loop-k-preserved : goal.loop-k-preserved
loop-k-preserved c =
    each_next (λ (n : ℕ) (phase : Phase). ArePhaseTimely c.args.script.now c.args.log.now c.args.notes.now n phase.controls) c.args.script.now.phases c.loop-k.k c.in-Some.phase.now (sym c.in-Some.ensures)
    (subst (λ (l : List ControlLine). ArePhaseTimely c.args.script.now c.args.log.now c.args.notes.now c.loop-k.k l) c.as_slice.ensures (c.is_phase_timely.ensures.sound c.if-not-is_phase_timely.false)) c.loop-k.invariant

pub returns-clause-sound : goal.returns-clause-sound
returns-clause-sound c = λ _ k phase is. c.loop-k.invariant k phase (let lt = slice_get_within c.args.script.now.phases k phase is in omega (arith, lt, c.loop-k-test.false, c.len-k-end.ensures)) is

pub returns-then-not-is_phase_timely-clause-complete : goal.returns-then-not-is_phase_timely-clause-complete
returns-then-not-is_phase_timely-clause-complete c = λ carried requests all.
    sym c.if-not-is_phase_timely.true
    ∙ c.is_phase_timely.ensures.complete c.in-Some.phase.now (sym c.in-Some.ensures) (sym c.as_slice.ensures) carried requests
    (subst (λ (l : List ControlLine). ArePhaseTimely c.args.script.now c.args.log.now c.args.notes.now c.loop-k.k l) (sym c.as_slice.ensures) (all c.loop-k.k c.in-Some.phase.now (sym c.in-Some.ensures)))
