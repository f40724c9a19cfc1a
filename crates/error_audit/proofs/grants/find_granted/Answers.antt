use Rattle.std.proofs.Common.{◌≡◌}
use Rattle.std.specs.Prelude.{List}
use Rattle.fop_types.specs.declared.contents.Row.{Row}
use Rattle.error_audit.specs.Showing.{IsGrantedAt}
use Rattle.error_audit.specs.declared.evidence.Found.{Found}
use Rattle.error_audit.proofs.Different.{none_next, none_all}
use Rattle.error_audit.proofs.grants.find_granted.Goals as goal

pub loop-one-preserved-then-one-brick : goal.loop-one-preserved-then-one-brick
loop-one-preserved-then-one-brick c = none_next (λ (one : Found). (one.brick ≡ c.args.brick) × ((rows : List Row) × IsGrantedAt c.args.log.now c.args.reply.now.call c.args.reply.now.event c.args.phase.now.from c.args.phase.now.cells c.args.brick c.args.lock one.at rows)) c.args.found.now c.loop-one.one-index _ c.loop-one-test.true c.loop-one.invariant (λ own. c.if-one-brick.true own.0)

pub loop-one-preserved : goal.loop-one-preserved
loop-one-preserved c =
    none_next (λ (one : Found). (one.brick ≡ c.args.brick) × ((rows : List Row) × IsGrantedAt c.args.log.now c.args.reply.now.call c.args.reply.now.event c.args.phase.now.from c.args.phase.now.cells c.args.brick c.args.lock one.at rows)) c.args.found.now c.loop-one.one-index _ c.loop-one-test.true c.loop-one.invariant
    (λ own. let some = c.in_ok-rows.ensures.complete own.1.0 own.1.1 in let none = c.in_default.is in absurd cc)

pub returns-clause-complete : goal.returns-clause-complete
returns-clause-complete c = λ has. absurd (none_all (λ (one : Found). (one.brick ≡ c.args.brick) × ((rows : List Row) × IsGrantedAt c.args.log.now c.args.reply.now.call c.args.reply.now.event c.args.phase.now.from c.args.phase.now.cells c.args.brick c.args.lock one.at rows)) c.args.found.now c.loop-one.one-index c.loop-one-test.false c.loop-one.invariant has.one has.among (has.brick_is, (has.rows, has.granted)))
