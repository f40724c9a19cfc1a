use Rattle.std.proofs.Common.{arith}
use Rattle.script_commands.proofs.ReportLines.{line_in_text, report_refused}
use Rattle.script_commands.proofs.replaying.said_of.Goals as goal

pub overflow_add-result : goal.overflow_add-result
overflow_add-result c =
    let is = c.in-Err-At.field-0-is in
    omega (arith, line_in_text c.args.text.now c.args.found.at c.args.found.lines c.in-Err-At.line c.requires.report c.requires.within (c.in-Err-At.ensures.refused c.in-Err-At.line cc), c.requires.few)

pub returns-in-Err-At : goal.returns-in-Err-At
returns-in-Err-At c =
    let is = c.in-Err-At.field-0-is in
    report_refused c.args.text.now c.args.found.at c.args.found.lines c.in-Err-At.line c.args.read.now c.requires.report c.requires.script (c.in-Err-At.ensures.refused c.in-Err-At.line cc)
