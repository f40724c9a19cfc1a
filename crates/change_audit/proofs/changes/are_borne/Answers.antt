use Rattle.std.proofs.Common.{◌≡◌, ◌<◌, length, sym, ◌∙◌, arith}
use Rattle.std.specs.Prelude.{true, false}
use Rattle.change_audit.proofs.Entries.{claimed_next, all_claimed}
use Rattle.change_audit.proofs.changes.are_borne.Goals as goal

pub loop-k-preserved : goal.loop-k-preserved
loop-k-preserved c =
    claimed_next c.args.script.now c.args.plans.now c.args.log.now c.args.bricks.now c.args.ops.now c.args.from.now c.loop-k.k c.loop-k.claims c.take_entry.new.claims
    c.in_ok-take_entry.ensures.keeps (c.in_ok-take_entry.ensures.claimed c.if-not-branch.false) c.loop-k.invariant

pub returns-clause-sound : goal.returns-clause-sound
returns-clause-sound c = λ _.
    all_claimed c.args.script.now c.args.plans.now c.args.log.now c.args.bricks.now c.args.ops.now c.args.from.now c.loop-k.k c.loop-k.claims (omega (arith, c.loop-k-test.false, c.len-k-end.ensures))
    c.loop-k.invariant

pub returns-then-not-branch-clause-not_due : goal.returns-then-not-branch-clause-not_due
returns-then-not-branch-clause-not_due c = λ none le.
    let lt : c.loop-k.k < length c.args.log.now.history = omega (arith, c.loop-k-test.true, c.len-k-end.ensures) in
    let e : false ≡ true = sym c.if-not-branch.true ∙ c.in_ok-take_entry.ensures.not_due none lt (omega (arith, le, lt)) in absurd cc
