use Rattle.std.proofs.Common.{◌≡◌, sym, ap, ◌∙◌}
use Rattle.std.specs.Prelude.{◌+◌, ◌++◌, ◌∷◌, take, drop}
use Rattle.std.proofs.lemmas.List.{at_drop_more}
use Rattle.mount_log.specs.Arrivals.{inputs_to}
use Rattle.mount_log.specs.declared.logs.SentLine.{SentLine}
use Rattle.log_audit.proofs.Prefixes.{take_next, within, goes_on}
use Rattle.log_audit.proofs.bricks.was_sent.Goals as goal

pub loop-line-preserved : goal.loop-line-preserved
loop-line-preserved c =
    let there = c.is_at.ensures.0 c.if-not-is_at.false in
    let one = c.line-item.result in let rest = drop (c.loop-line.line-index + 1) c.args.sent.now in
    let sends : inputs_to c.args.brick (one ∷ rest) ≡ c.in-Some.bytes.now ∷ inputs_to c.args.brick rest = c.in-Some.ensures rest in
    let drops : inputs_to c.args.brick (drop c.loop-line.line-index c.args.sent.now) ≡ inputs_to c.args.brick (one ∷ rest) =
    at_drop_more (inputs_to c.args.brick) c.args.sent.now c.loop-line.line-index one c.loop-line-test.true ∙ ap (λ (line : SentLine). inputs_to c.args.brick (line ∷ rest)) (sym c.line-item.is) in (
      within c.args.journal.now c.loop-line.at _ there,
      sym (take_next c.args.journal.now c.loop-line.at _ (inputs_to c.args.brick rest) there) ∙ ap (λ l. take c.loop-line.at c.args.journal.now ++ l) (sym (drops ∙ sends)) ∙ c.loop-line.invariant.1,
    )

pub returns-then-not-is_at : goal.returns-then-not-is_at
returns-then-not-is_at c =
    let one = c.line-item.result in let rest = drop (c.loop-line.line-index + 1) c.args.sent.now in
    let sends : inputs_to c.args.brick (one ∷ rest) ≡ c.in-Some.bytes.now ∷ inputs_to c.args.brick rest = c.in-Some.ensures rest in
    let drops : inputs_to c.args.brick (drop c.loop-line.line-index c.args.sent.now) ≡ inputs_to c.args.brick (one ∷ rest) =
    at_drop_more (inputs_to c.args.brick) c.args.sent.now c.loop-line.line-index one c.loop-line-test.true ∙ ap (λ (line : SentLine). inputs_to c.args.brick (line ∷ rest)) (sym c.line-item.is) in (
      λ no. absurd cc,
      λ prefix. sym c.if-not-is_at.true
          ∙ c.is_at.ensures.1 (goes_on c.args.journal.now c.loop-line.at c.in-Some.bytes.now (inputs_to c.args.brick rest) (inputs_to c.args.brick c.args.sent.now)
          (ap (λ l. take c.loop-line.at c.args.journal.now ++ l) (sym (drops ∙ sends)) ∙ c.loop-line.invariant.1) c.loop-line.invariant.0 c.if-at-journal.false prefix),
    )
