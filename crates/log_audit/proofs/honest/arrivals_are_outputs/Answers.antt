use Rattle.std.proofs.Common.{sym, ap, subst, ◌∙◌, arith}
use Rattle.std.specs.Prelude.{ℕ, Some, length}
use Rattle.std.specs.List.{AllByRecursion}
use Rattle.std.proofs.lemmas.Option.{slice_get-get_or}
use Rattle.brick_machine.specs.Journal.{Journal}
use Rattle.log_audit.specs.Honest.{IsFrom, IsOfBrick}
use Rattle.mount_log.proofs.Lists.{each_next}
use Rattle.log_audit.proofs.Honesty.{arrived, journals}
use Rattle.log_audit.proofs.honest.arrivals_are_outputs.Goals as goal

pub loop-brick-preserved : goal.loop-brick-preserved
loop-brick-preserved c =
    each_next (λ (k : ℕ) (b : Journal). IsOfBrick c.args.log.now k b) c.args.bricks.now c.loop-brick.brick c.index-bricks-brick.result
    (slice_get-get_or c.args.bricks.now c.loop-brick.brick c.index-bricks-brick.result c.loop-brick-test.true ∙ ap Some (sym c.index-bricks-brick.is))
    (c.is_of_brick.ensures.of_brick.0 c.if-not-is_of_brick.false) c.loop-brick.invariant

pub returns-clause-journals : goal.returns-clause-journals
returns-clause-journals c = λ _.
    journals c.args.log.now c.args.bricks.now (λ k b lt is. c.loop-brick.invariant k b (omega (arith, lt, c.loop-brick-test.false)) is)

pub returns-clause-arrived : goal.returns-clause-arrived
returns-clause-arrived c = λ _.
    arrived c.args.log.now c.args.bricks.now (λ k b lt is. c.loop-brick.invariant k b (omega (arith, lt, c.loop-brick-test.false)) is)
    c.outputs_are_encoded.ensures.outputs c.outputs_are_in_order.ensures.first
    (subst (λ es. AllByRecursion (IsFrom (length c.args.bricks.now)) es) c.as_slice.ensures (c.are_from.ensures.0 c.if-not-are_from.false))

pub returns-then-not-is_of_brick-clause-complete : goal.returns-then-not-is_of_brick-clause-complete
returns-then-not-is_of_brick-clause-complete c = λ _ has _.
    let there = slice_get-get_or c.args.bricks.now c.loop-brick.brick c.index-bricks-brick.result c.loop-brick-test.true ∙ ap Some (sym c.index-bricks-brick.is) in
    sym c.if-not-is_of_brick.true
    ∙ c.is_of_brick.ensures.of_brick.1 (record { journal = has.journals c.loop-brick.brick c.index-bricks-brick.result there; arrivals = has.arrived c.loop-brick.brick c.index-bricks-brick.result there; few = c.is_of_brick.ensures.few })
