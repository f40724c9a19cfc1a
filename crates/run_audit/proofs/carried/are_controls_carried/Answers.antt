use Rattle.std.proofs.Common.{◌≡◌, ◌<◌, ◌≤◌, refl, sym, ◌∙◌, arith}
use Rattle.std.specs.Prelude.{ℕ, ◌+◌, length, slice_get}
use Rattle.std.proofs.lemmas.Option.{slice_get_within}
use Rattle.run_audit.proofs.Controlling.{control_next, found_at}
use Rattle.mount_log.proofs.Lists.{got}
use Rattle.run_audit.proofs.carried.are_controls_carried.Goals as goal

pub loop-at-preserved : goal.loop-at-preserved
loop-at-preserved c =
    control_next c.args.log.now c.args.tables.now c.args.notes.now c.args.phase c.args.controls.now c.args.carried.now c.loop-at.at c.in-Some.control.now c.in-Some-get.how.now
    (got c.args.controls.now c.loop-at.at c.in-Some.control.now c.in-Some.ensures.lookup.0 c.in-Some.ensures.lookup.1)
    (got c.args.carried.now c.loop-at.at c.in-Some-get.how.now c.in-Some-get.ensures.lookup.0 c.in-Some-get.ensures.lookup.1)
    (c.in_ok-is_control_carried.ensures.0 c.if-not-branch.false) c.loop-at.invariant

pub returns : goal.returns
returns c = (λ _ k control is. c.loop-at.invariant k control (let lt = slice_get_within c.args.controls.now k control is in omega (arith, lt, c.loop-at-test.false)) is, λ _. refl)

pub returns-then-not-branch : goal.returns-then-not-branch
returns-then-not-branch c = (
  λ no. absurd cc,
  λ all. sym c.if-not-branch.true
      ∙ c.in_ok-is_control_carried.ensures.1
      (found_at c.args.log.now c.args.tables.now c.args.notes.now c.args.phase c.loop-at.at c.in-Some.control.now c.in-Some-get.how.now _
      (got c.args.carried.now c.loop-at.at c.in-Some-get.how.now c.in-Some-get.ensures.lookup.0 c.in-Some-get.ensures.lookup.1) (all c.loop-at.at c.in-Some.control.now (got c.args.controls.now c.loop-at.at c.in-Some.control.now c.in-Some.ensures.lookup.0 c.in-Some.ensures.lookup.1))),
)
