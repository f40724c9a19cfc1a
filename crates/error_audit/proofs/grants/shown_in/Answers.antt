use Rattle.std.proofs.Common.{◌≡◌, sym, subst, ◌∙◌}
use Rattle.std.specs.Prelude.{ℕ, true, false, List}
use Rattle.std.specs.List.{AllByRecursion}
use Rattle.mount_log.specs.Causes.{HasShown}
use Rattle.error_audit.specs.Finding.{IsFoundShown}
use Rattle.error_audit.proofs.Different.{all_read}
use Rattle.error_audit.proofs.Granting.{zip_next}
use Rattle.error_audit.proofs.grants.shown_in.Goals as goal

pub loop-brick-preserved : goal.loop-brick-preserved
loop-brick-preserved c =
    zip_next (HasShown c.args.log.now c.args.plan.now c.args.reply.now.call c.args.reply.now.event c.args.phase.now.from c.args.phase.now.cells) c.args.plan.now.bricks c.as_slice-brick-items.result.now
    c.loop-brick.brick-index _ c.loop-brick.shown.items c.push_shown.new.shown.items c.as_slice-brick-items.ensures c.loop-brick-test.true c.loop-brick.invariant (c.in_ok-push_shown.ensures.sound c.if-not-branch.false)

pub returns-then-not-branch-clause-complete : goal.returns-then-not-branch-clause-complete
returns-then-not-branch-clause-complete c = λ all.
    let shown = IsFoundShown c.args.log.now c.args.tables.now c.args.plan.now c.args.span c.args.reply.now.call c.args.reply.now.event c.args.phase.now.from c.args.phase.now.cells c.args.rows.now in
    let e : false ≡ true = sym c.if-not-branch.true ∙ c.in_ok-push_shown.ensures.complete
    (all_read shown c.as_slice-brick-items.result.now c.loop-brick.brick-index _ c.loop-brick-test.true (subst (AllByRecursion shown) (sym c.as_slice-brick-items.ensures) all)) in
    absurd cc
