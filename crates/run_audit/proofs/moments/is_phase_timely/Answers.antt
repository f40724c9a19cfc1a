use Rattle.std.proofs.Common.{◌≡◌, ◌<◌, ◌≤◌, sym, ap, subst, ◌∙◌, arith}
use Rattle.std.specs.Prelude.{ℕ, List, Option, ◌+◌, ◌⊎◌, length, slice_get}
use Rattle.std.proofs.lemmas.Option.{slice_get_within}
use Rattle.script_lang.specs.declared.scripts.ControlLine.{ControlLine}
use Rattle.run_audit.specs.Timed.{IsHowTimely}
use Rattle.run_audit.specs.declared.run_notes.Carried.{Carried}
use Rattle.mount_log.proofs.Lists.{each_next, got}
use Rattle.run_audit.proofs.NotedFor.{noted_of}
use Rattle.run_audit.proofs.Timing.{ready}
use Rattle.run_audit.proofs.moments.is_phase_timely.Goals as goal

pub loop-at-preserved : goal.loop-at-preserved
loop-at-preserved c =
    each_next (λ (i : ℕ) (x : ControlLine). IsHowTimely c.args.script.now c.args.log.now c.args.notes.now c.args.phase i x (slice_get c.carried_of-carried.result.now i)) c.args.controls.now c.loop-at.at c.in-Some.control.now
    (got c.args.controls.now c.loop-at.at c.in-Some.control.now c.in-Some.ensures.lookup.0 c.in-Some.ensures.lookup.1) (c.is_how_timely.ensures.sound c.if-not-is_how_timely.false) c.loop-at.invariant

pub returns-clause-sound : goal.returns-clause-sound
returns-clause-sound c = λ _ k control is.
    subst (λ (l : List Carried). IsHowTimely c.args.script.now c.args.log.now c.args.notes.now c.args.phase k control (slice_get l k)) c.carried_of-carried.ensures
    (c.loop-at.invariant k control (let lt = slice_get_within c.args.controls.now k control is in omega (arith, lt, c.loop-at-test.false)) is)

pub returns-then-not-is_how_timely-clause-complete : goal.returns-then-not-is_how_timely-clause-complete
returns-then-not-is_how_timely-clause-complete c = λ here phase_is same carried requests all.
    let there = got c.args.controls.now c.loop-at.at c.in-Some.control.now c.in-Some.ensures.lookup.0 c.in-Some.ensures.lookup.1 in
    let own =
    ready c.args.script.now c.args.log.now c.args.tables.now c.args.notes.now carried requests c.args.phase c.loop-at.at here c.in-Some.control.now phase_is
    (ap (λ (l : List ControlLine). slice_get l c.loop-at.at) same ∙ there) in
    sym c.if-not-is_how_timely.true
    ∙ c.is_how_timely.ensures.complete own.how (ap (λ (l : List Carried). slice_get l c.loop-at.at) c.carried_of-carried.ensures ∙ own.is)
    (noted_of c.args.script.now c.args.log.now c.args.tables.now c.args.notes.now carried) (slice_get_within c.args.script.now.phases c.args.phase here phase_is) own.within own.noted
    (subst (λ (o : Option Carried). IsHowTimely c.args.script.now c.args.log.now c.args.notes.now c.args.phase c.loop-at.at c.in-Some.control.now o) own.is (all c.loop-at.at c.in-Some.control.now there))
