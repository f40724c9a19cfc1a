use Rattle.std.proofs.Common.{sym, ap, ◌∙◌, arith}
use Rattle.std.specs.Prelude.{Some, ◌+◌}
use Rattle.std.proofs.lemmas.List.{length-take-le}
use Rattle.std.proofs.lemmas.Option.{slice_get-get_or}
use Rattle.mount_log.proofs.Heading.{head_is}
use Rattle.log_audit.proofs.Heading.{head_for_each}
use Rattle.log_audit.proofs.Earlier.{timely_next, counted, none_missed}
use Rattle.log_audit.proofs.timely.are_timely.Goals as goal

pub loop-k-preserved : goal.loop-k-preserved
loop-k-preserved c = (
  timely_next c.args.brick c.args.events.now c.args.sent.now c.loop-k.k c.index-events-k.result c.loop-k-test.true c.index-events-k.is
      (c.is_timely.ensures.sound c.if-not-is_timely.false c.args.sent.now (c.loop-k.k + 1) (counted c.args.brick (c.loop-k.k + 1) c.args.sent.now c.pass_to-passed.result c.pass_to-passed.ensures.low))
      c.loop-k.invariant.0 (length-take-le c.loop-k.k c.args.events.now (omega (arith, c.loop-k-test.true))),
  c.pass_to-passed.ensures.low,
)

pub is_timely-requires : goal.is_timely-requires
is_timely-requires c =
    head_is c.args.heads.now c.args.events.now c.loop-k.k c.index-events-k.result c.in-Some.head c.requires
    (slice_get-get_or c.args.events.now c.loop-k.k c.index-events-k.result c.loop-k-test.true ∙ ap Some (sym c.index-events-k.is)) (sym c.head_at.ensures ∙ c.in-Some.is)

pub returns-in_default-clause-complete : goal.returns-in_default-clause-complete
returns-in_default-clause-complete c = λ _ _. absurd (head_for_each c.args.heads.now c.args.events.now c.loop-k.k c.requires c.loop-k-test.true (sym c.head_at.ensures ∙ c.in_default.is))

pub returns-then-not-is_timely-clause-complete : goal.returns-then-not-is_timely-clause-complete
returns-then-not-is_timely-clause-complete c = λ order timely.
    sym c.if-not-is_timely.true
    ∙ c.is_timely.ensures.complete c.args.sent.now (c.loop-k.k + 1) (none_missed c.args.brick (c.loop-k.k + 1) c.args.events.now c.args.sent.now c.pass_to-passed.result order c.pass_to-passed.ensures.low c.pass_to-passed.ensures.passed)
    (timely.each c.loop-k.k c.index-events-k.result (slice_get-get_or c.args.events.now c.loop-k.k c.index-events-k.result c.loop-k-test.true ∙ ap Some (sym c.index-events-k.is)))
