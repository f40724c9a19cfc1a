use Rattle.std.proofs.Common.{◌≡◌, sym, ◌∙◌}
use Rattle.change_audit.specs.Bearing.{IsSaidBearer, IsBearerThere}
use Rattle.change_audit.proofs.Items.{all_next, all_read}
use Rattle.change_audit.proofs.bearers.are_bearers.Goals as goal

pub loop-bearer-preserved : goal.loop-bearer-preserved
loop-bearer-preserved c =
    all_next (IsSaidBearer c.args.log.now c.args.bricks.now c.args.plan.now c.args.call c.args.graph c.args.change c.args.number c.args.text.now) c.args.bearers.now c.loop-bearer.bearer-index _ c.loop-bearer-test.true
    (c.in_ok-is_bearer.ensures.sound c.if-not-branch.false) c.loop-bearer.invariant

pub returns-then-not-branch-clause-complete : goal.returns-then-not-branch-clause-complete
returns-then-not-branch-clause-complete c = λ all.
    sym c.if-not-branch.true
    ∙ c.in_ok-is_bearer.ensures.complete
    (all_read (IsBearerThere c.args.log.now c.args.bricks.now c.args.plan.now c.args.call c.args.graph c.args.change c.args.number c.args.text.now) c.args.bearers.now c.loop-bearer.bearer-index _ c.loop-bearer-test.true all)
