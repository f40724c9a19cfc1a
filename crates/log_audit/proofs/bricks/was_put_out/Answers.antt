use Rattle.std.proofs.Common.{◌≡◌, sym, ap, ◌∙◌}
use Rattle.std.specs.Prelude.{◌+◌, ◌++◌, ◌∷◌, take, drop}
use Rattle.std.proofs.lemmas.List.{at_drop_more}
use Rattle.mount_log.specs.Arrivals.{arrivals_from}
use Rattle.mount_log.specs.declared.logs.HubEvent.{HubEvent}
use Rattle.log_audit.proofs.Prefixes.{take_next, within, goes_with}
use Rattle.log_audit.proofs.bricks.was_put_out.Goals as goal

pub loop-event-preserved : goal.loop-event-preserved
loop-event-preserved c =
    let there = c.is_at.ensures.0 c.if-not-is_at.false in
    let one = c.event-item.result in let rest = drop (c.loop-event.event-index + 1) c.args.events.now in
    let sends : arrivals_from c.args.brick (one ∷ rest) ≡ c.in-Some.bytes.now ∷ arrivals_from c.args.brick rest = c.in-Some.ensures rest in
    let drops : arrivals_from c.args.brick (drop c.loop-event.event-index c.args.events.now) ≡ arrivals_from c.args.brick (one ∷ rest) =
    at_drop_more (arrivals_from c.args.brick) c.args.events.now c.loop-event.event-index one c.loop-event-test.true ∙ ap (λ (event : HubEvent). arrivals_from c.args.brick (event ∷ rest)) (sym c.event-item.is) in (
      within c.args.outputs.now c.loop-event.at _ there,
      sym (take_next c.args.outputs.now c.loop-event.at _ (arrivals_from c.args.brick rest) there) ∙ ap (λ l. take c.loop-event.at c.args.outputs.now ++ l) (sym (drops ∙ sends)) ∙ c.loop-event.invariant.1,
    )

pub returns-then-not-is_at : goal.returns-then-not-is_at
returns-then-not-is_at c =
    let one = c.event-item.result in let rest = drop (c.loop-event.event-index + 1) c.args.events.now in
    let sends : arrivals_from c.args.brick (one ∷ rest) ≡ c.in-Some.bytes.now ∷ arrivals_from c.args.brick rest = c.in-Some.ensures rest in
    let drops : arrivals_from c.args.brick (drop c.loop-event.event-index c.args.events.now) ≡ arrivals_from c.args.brick (one ∷ rest) =
    at_drop_more (arrivals_from c.args.brick) c.args.events.now c.loop-event.event-index one c.loop-event-test.true ∙ ap (λ (event : HubEvent). arrivals_from c.args.brick (event ∷ rest)) (sym c.event-item.is) in (
      λ no. absurd cc,
      λ prefix. sym c.if-not-is_at.true
          ∙ c.is_at.ensures.1 (goes_with c.args.outputs.now c.loop-event.at c.in-Some.bytes.now (arrivals_from c.args.brick rest) (arrivals_from c.args.brick c.args.events.now)
          (ap (λ l. take c.loop-event.at c.args.outputs.now ++ l) (sym (drops ∙ sends)) ∙ c.loop-event.invariant.1) c.loop-event.invariant.0 prefix),
    )
