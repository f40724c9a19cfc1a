use Rattle.std.proofs.Common.{◌≡◌, refl}
use Rattle.mount_log.specs.Causes.{Failed}
use Rattle.error_audit.specs.AtPlaces.{IsFaultedAt}
use Rattle.error_audit.specs.declared.evidence.Found.{Found}
use Rattle.error_audit.proofs.Different.{none_next, none_all}
use Rattle.error_audit.proofs.grants.has_failed.Goals as goal

pub loop-one-preserved : goal.loop-one-preserved
loop-one-preserved c =
    none_next (λ (one : Found). (one.brick ≡ c.args.brick) × IsFaultedAt c.args.log.now c.args.plan.now c.args.reply.now.call c.args.reply.now.event (c.args.brick, one.taken) one.at) c.args.found.now c.loop-one.one-index _
    c.loop-one-test.true c.loop-one.invariant (λ own. let yes = c.in_ok-is_faulted.ensures.exact.1 own.1 in let no = c.if-branch.false in absurd cc)

pub returns-then-branch-clause-sound : goal.returns-then-branch-clause-sound
returns-then-branch-clause-sound c = λ _. Failed _ (c.in_ok-is_faulted.ensures.sound c.if-branch.true)

pub returns-clause-exact : goal.returns-clause-exact
returns-clause-exact c = (
  λ no. absurd cc,
  λ has. absurd (none_all (λ (one : Found). (one.brick ≡ c.args.brick) × IsFaultedAt c.args.log.now c.args.plan.now c.args.reply.now.call c.args.reply.now.event (c.args.brick, one.taken) one.at) c.args.found.now c.loop-one.one-index
      c.loop-one-test.false c.loop-one.invariant has.one has.among (has.brick_is, has.faulted)),
)

pub loop-one-preserved-then-one-brick : goal.loop-one-preserved-then-one-brick
loop-one-preserved-then-one-brick c = none_next (λ (one : Found). (one.brick ≡ c.args.brick) × IsFaultedAt c.args.log.now c.args.plan.now c.args.reply.now.call c.args.reply.now.event (c.args.brick, one.taken) one.at) c.args.found.now c.loop-one.one-index _ c.loop-one-test.true c.loop-one.invariant (λ own. c.if-one-brick.true own.0)
