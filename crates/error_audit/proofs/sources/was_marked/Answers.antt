use Rattle.std.proofs.Common.{◌≡◌, refl}
use Rattle.error_audit.specs.Showing.{IsMarkedAt}
use Rattle.error_audit.proofs.Different.{none_next, none_all}
use Rattle.error_audit.proofs.Sourcing.{has_mark}
use Rattle.error_audit.proofs.sources.was_marked.Goals as goal

pub loop-at-preserved : goal.loop-at-preserved
loop-at-preserved c =
    none_next (IsMarkedAt c.args.log.now c.args.plan.now c.args.phase.now.from c.args.phase.now.cells) c.args.marks.now c.loop-at.at-index _ c.loop-at-test.true c.loop-at.invariant
    (λ own. let yes = c.in_ok-is_marked.ensures.exact.1 own in let no = c.if-branch.false in absurd cc)

pub returns-then-branch-clause-exact : goal.returns-then-branch-clause-exact
returns-then-branch-clause-exact c = (
  λ _. has_mark c.args.log.now c.args.plan.now c.args.phase.now.from c.args.phase.now.cells c.args.marks.now c.loop-at.at-index _ c.loop-at-test.true (c.in_ok-is_marked.ensures.exact.0 c.if-branch.true),
  λ _. refl,
)

pub returns-clause-exact : goal.returns-clause-exact
returns-clause-exact c = (
  λ no. absurd cc,
  λ has. absurd (none_all (IsMarkedAt c.args.log.now c.args.plan.now c.args.phase.now.from c.args.phase.now.cells) c.args.marks.now c.loop-at.at-index c.loop-at-test.false c.loop-at.invariant has.at has.among has.marked),
)
