use Rattle.std.proofs.Common.{◌≡◌, ◌<◌, ◌≤◌, sym, subst, ◌∙◌, arith}
use Rattle.std.specs.Prelude.{ℕ, ◌+◌, List, Some, length, slice_get}
use Rattle.std.proofs.lemmas.Option.{slice_get_within}
use Rattle.mount_log.specs.declared.logs.HubEvent.{HubEvent}
use Rattle.run_audit.specs.Controlled.{IsOfControl}
use Rattle.mount_log.proofs.Lists.{each_next, got}
use Rattle.run_audit.specs.declared.run_notes.ControlAt.{ControlAt}
use Rattle.run_audit.proofs.NotedFor.{by_place}
use Rattle.run_audit.proofs.acts.acts_are_of_controls.Goals as goal

pub loop-k-preserved : goal.loop-k-preserved
loop-k-preserved c =
    each_next (λ (n : ℕ) (e : HubEvent). IsOfControl c.args.script.now c.args.notes.now c.len-last.result (n + 1) e) c.args.log.now.events c.loop-k.k c.in-Some.event.now (sym c.in-Some.ensures)
    (c.is_of_control.ensures.sound c.if-not-is_of_control.false) c.loop-k.invariant

pub returns-clause-sound : goal.returns-clause-sound
returns-clause-sound c = λ _ k e is.
    subst (λ (n : ℕ). IsOfControl c.args.script.now c.args.notes.now n (k + 1) e) c.len-last.ensures
    (c.loop-k.invariant k e (let lt = slice_get_within c.args.log.now.events k e is in omega (arith, lt, c.loop-k-test.false, c.len-k-end.ensures)) is)

pub returns-then-not-is_of_control-clause-complete : goal.returns-then-not-is_of_control-clause-complete
returns-then-not-is_of_control-clause-complete c = λ noted many all.
    sym c.if-not-is_of_control.true
    ∙ c.is_of_control.ensures.complete noted (omega arith)
    (by_place c.args.notes.now c.loop-k.k c.in-Some-get.at.now
    (subst (λ (l : List ControlAt). slice_get l c.loop-k.k ≡ Some c.in-Some-get.at.now) c.as_slice.ensures
    (got c.as_slice.result.now c.loop-k.k c.in-Some-get.at.now c.in-Some-get.ensures.lookup.0 c.in-Some-get.ensures.lookup.1)))
    (subst (λ (n : ℕ). IsOfControl c.args.script.now c.args.notes.now n (c.loop-k.k + 1) c.in-Some.event.now) (sym c.len-last.ensures) (all c.loop-k.k c.in-Some.event.now (sym c.in-Some.ensures)))
