use Rattle.std.proofs.Common.{◌∙◌, ap, sym, arith, List, ℕ}
use Rattle.volfile.specs.TextLines.{is_text}
use Rattle.volfile.specs.Options.{last_value}
use Rattle.volfile.proofs.LastValues.{last_read}
use Rattle.volfile.proofs.volumes.option_value.Goals as goal

pub returns-then-is_same : goal.returns-then-is_same
returns-then-is_same c =
    last_read c.as_slice-options.result.now c.loop-at.at c.args.key.now c.index-options-at.result (omega (arith, c.loop-at-test.true)) c.loop-at.invariant.0 c.loop-at.invariant.1 c.index-options-at.is
    (ap (λ (l : List ℕ). is_text l c.args.key.now) (sym c.as_slice.ensures) ∙ sym c.is_same.ensures ∙ c.if-is_same.true)
    ∙ ap (λ os. last_value os c.args.key.now) c.as_slice-options.ensures
