use Rattle.std.proofs.Common.{◌≡◌, false, sym, ◌∙◌}
use Rattle.volfile.specs.TextLines.{is_text}
use Rattle.script_commands.specs.Replays.{report_line}
use Rattle.script_commands.proofs.ReportLines.{searched_more}
use Rattle.script_commands.proofs.replaying.find_report.Goals as goal

pub loop-at-preserved : goal.loop-at-preserved
loop-at-preserved c =
    let other : is_text c.first_line-line.result.now report_line ≡ false = sym c.is_same.ensures ∙ c.if-is_same.false in
    searched_more c.args.text.now c.first_line-line.result.now c.loop-at.at c.loop-at.lines c.loop-at.invariant c.loop-at-test.true c.first_line-line.ensures.cut other
