use Rattle.std.proofs.Common.{refl, sym, ap, subst, ◌∙◌, map, get_or}
use Rattle.std.specs.Prelude.{Some, ◌<◌, ◌≤◌, length}
use Rattle.log_audit.proofs.Submitting.{other_next, submit_next, in_order, read_at, one_left, its_number}
use Rattle.log_audit.proofs.submits.submits_are_in_order.Goals as goal

pub loop-event-preserved-in_default : goal.loop-event-preserved-in_default
loop-event-preserved-in_default c =
    let e = c.as_slice-event-items.ensures in
    other_next c.args.script.now c.args.log.now.events c.loop-event.event-index c.event-item.result (subst (λ l. c.loop-event.event-index < length l) e c.loop-event-test.true)
    (c.event-item.is ∙ ap (λ l. get_or l c.loop-event.event-index c.event-item.result) e) (map (λ q. q.items) c.loop-event.queues.items) c.in_default.not-Submit c.loop-event.invariant

pub loop-event-preserved : goal.loop-event-preserved
loop-event-preserved c =
    let e = c.as_slice-event-items.ensures in
    submit_next c.args.script.now c.args.log.now.events c.loop-event.event-index c.event-item.result (subst (λ l. c.loop-event.event-index < length l) e c.loop-event-test.true)
    (c.event-item.is ∙ ap (λ l. get_or l c.loop-event.event-index c.event-item.result) e) c.in-Submit.session c.in-Submit.line
    (map (λ q. q.items) c.loop-event.queues.items) (map (λ q. q.items) c.take_line.new.lines.items) c.in-Some.at c.in-Submit.is c.in-Some.ensures.taken (c.is_line.ensures.0 c.if-not-is_line.false) c.loop-event.invariant

pub returns : goal.returns
returns c = (
  λ _. in_order c.args.script.now c.args.log.now c.loop-event.event-index (subst (λ l. length l ≤ c.loop-event.event-index) c.as_slice-event-items.ensures c.loop-event-test.false) c.loop-event.invariant.0,
  λ _. refl,
)

pub returns-in_default-take_line : goal.returns-in_default-take_line
returns-in_default-take_line c =
    let e = c.as_slice-event-items.ensures in
    let there = read_at c.args.log.now.events c.loop-event.event-index c.event-item.result (subst (λ l. c.loop-event.event-index < length l) e c.loop-event-test.true)
    (c.event-item.is ∙ ap (λ l. get_or l c.loop-event.event-index c.event-item.result) e) ∙ ap Some c.in-Submit.is in (
      λ no. absurd cc,
      λ order. absurd (one_left c.args.script.now c.args.log.now c.loop-event.event-index c.in-Submit.session c.in-Submit.line there (map (λ q. q.items) c.loop-event.queues.items) c.loop-event.invariant.1 order
          c.in_default-take_line.ensures.none),
    )

pub returns-then-not-is_line : goal.returns-then-not-is_line
returns-then-not-is_line c =
    let e = c.as_slice-event-items.ensures in
    let there = read_at c.args.log.now.events c.loop-event.event-index c.event-item.result (subst (λ l. c.loop-event.event-index < length l) e c.loop-event-test.true)
    (c.event-item.is ∙ ap (λ l. get_or l c.loop-event.event-index c.event-item.result) e) ∙ ap Some c.in-Submit.is in (
      λ no. absurd cc,
      λ order. sym c.if-not-is_line.true
          ∙ c.is_line.ensures.1 (its_number c.args.script.now c.args.log.now c.loop-event.event-index c.in-Submit.session c.in-Submit.line there (map (λ q. q.items) c.loop-event.queues.items) c.loop-event.invariant.1 order
          (map (λ q. q.items) c.take_line.new.lines.items) c.in-Some.at c.in-Some.ensures.taken),
    )
