use Rattle.std.proofs.Common.{◌≡◌, refl}
use Rattle.error_audit.specs.AtPlaces.{IsFaultedAt}
use Rattle.error_audit.specs.declared.evidence.Found.{Found}
use Rattle.error_audit.proofs.Different.{none_next, none_all}
use Rattle.error_audit.proofs.io_causes.is_fault_found.Goals as goal
use Rattle.error_audit.proofs.io_causes.is_fault_found.Goals.{then-one-pair-via-then-one-pair, then-one-pair-via-else-one-pair+then-one-pair-2}

pub loop-one-preserved : goal.loop-one-preserved
loop-one-preserved c =
    none_next (λ (one : Found). (one.brick ≡ c.args.pair.now.0) × (one.taken ≡ c.args.pair.now.1) × IsFaultedAt c.args.log.now c.args.plan.now c.args.reply.now.call c.args.reply.now.event c.args.pair.now one.at) c.args.found.now c.loop-one.one-index _
    c.loop-one-test.true c.loop-one.invariant (λ own. let yes = c.in_ok-is_faulted.ensures.exact.1 own.2 in let no = c.if-branch.false in absurd cc)

pub returns-clause-exact : goal.returns-clause-exact
returns-clause-exact c = (
  λ no. absurd cc,
  λ has. absurd (none_all (λ (one : Found). (one.brick ≡ c.args.pair.now.0) × (one.taken ≡ c.args.pair.now.1) × IsFaultedAt c.args.log.now c.args.plan.now c.args.reply.now.call c.args.reply.now.event c.args.pair.now one.at) c.args.found.now c.loop-one.one-index
      c.loop-one-test.false c.loop-one.invariant has.one has.among (has.brick_is, has.taken_is, has.faulted)),
)

pub loop-one-preserved-then-one-pair : goal.loop-one-preserved-then-one-pair
loop-one-preserved-then-one-pair c = elim c.then-one-pair.branch [
  | then-one-pair-via-then-one-pair w ↦ none_next (λ (one : Found). (one.brick ≡ c.args.pair.now.0) × (one.taken ≡ c.args.pair.now.1) × IsFaultedAt c.args.log.now c.args.plan.now c.args.reply.now.call c.args.reply.now.event c.args.pair.now one.at) c.args.found.now c.loop-one.one-index _ c.loop-one-test.true c.loop-one.invariant (λ own. w.if-one-pair.true own.0)
  | then-one-pair-via-else-one-pair+then-one-pair-2 w ↦ none_next (λ (one : Found). (one.brick ≡ c.args.pair.now.0) × (one.taken ≡ c.args.pair.now.1) × IsFaultedAt c.args.log.now c.args.plan.now c.args.reply.now.call c.args.reply.now.event c.args.pair.now one.at) c.args.found.now c.loop-one.one-index _ c.loop-one-test.true c.loop-one.invariant (λ own. w.if-one-pair-2.true own.1)
]
