use Rattle.std.proofs.Common.{sym, ◌∙◌, arith}
use Rattle.std.specs.Prelude.{ℕ}
use Rattle.log_audit.specs.Arriving.{AreTimely}
use Rattle.log_audit.proofs.Honesty.{each_below, honest, timely_of}
use Rattle.log_audit.proofs.honest.arrivals_are_honest.Goals as goal

pub loop-brick-preserved : goal.loop-brick-preserved
loop-brick-preserved c =
    each_below (λ (k : ℕ). AreTimely k c.args.log.now.events c.args.log.now.sent) c.loop-brick.brick (c.is_timely.ensures.sound c.if-not-is_timely.false) c.loop-brick.invariant

pub returns-clause-sound : goal.returns-clause-sound
returns-clause-sound c = λ _.
    honest c.outputs_are_in_order.ensures.stay c.args.log.now c.args.bricks.now c.requires.journals c.requires.arrived.from
    (λ k lt. c.loop-brick.invariant k (omega (arith, lt, c.loop-brick-test.false)))

pub returns-then-not-is_timely-clause-complete : goal.returns-then-not-is_timely-clause-complete
returns-then-not-is_timely-clause-complete c = λ few order honest. sym c.if-not-is_timely.true ∙ c.is_timely.ensures.complete order (timely_of c.args.log.now c.loop-brick.brick honest)
