use Rattle.std.proofs.Common.{◌≡◌, Ok, ap, arith, subst, sym}
use Rattle.volfile.specs.TextLines.{lines_of}
use Rattle.script_lang.specs.code.Readings.{Leaves, reading_of}
use Rattle.script_lang.specs.ScriptText.{line_read, lines_read}
use Rattle.script_lang.proofs.Accepted.{KeepsReading, next_keeps, nothing_keeps}
use Rattle.script_lang.proofs.TextRead.{taken}
use Rattle.script_lang.proofs.parses.read_lines.Goals as goal

pub loop-at-init : goal.loop-at-init
loop-at-init c = (
  omega arith,
  subst KeepsReading (sym c.requires) nothing_keeps,
  ap (λ r. lines_read (lines_of c.args.text.now) r 0) c.requires,
)

pub loop-at-preserved : goal.loop-at-preserved
loop-at-preserved c =
    let line = c.first_line-line.result.now in
    let before = reading_of c.loop-at.draft c.loop-at.inside in
    let after = reading_of c.with_line.new.draft c.with_line.new.inside in
    let took : line_read before c.line_after-number.result line ≡ Ok after = subst (λ o. Leaves (line_read before c.line_after-number.result line) o after) c.in_default.is c.in_ok-kind.ensures in (
      omega (arith, c.first_line-line.ensures.within),
      next_keeps before after c.line_after-number.result line c.loop-at.invariant.1 took,
      taken _ _ _ line before after c.loop-at.number c.line_after-number.result c.loop-at.invariant.2 c.first_line-line.ensures.cut c.line_after-number.ensures took,
    )
