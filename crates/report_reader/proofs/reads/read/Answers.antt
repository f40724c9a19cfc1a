use Rattle.report_reader.proofs.Exact.{print_of_read, only_report, refused_at, refused_as}
use Rattle.report_reader.proofs.reads.read.Goals as goal

pub returns-in-Ok-clause-report : goal.returns-in-Ok-clause-report
returns-in-Ok-clause-report c = (print_of_read c.args.bytes.now _ c.in-Ok.ensures).0

pub returns-in-Ok-clause-printed : goal.returns-in-Ok-clause-printed
returns-in-Ok-clause-printed c = (print_of_read c.args.bytes.now _ c.in-Ok.ensures).1

pub returns-in-Ok-clause-only : goal.returns-in-Ok-clause-only
returns-in-Ok-clause-only c = λ report legal is. only_report c.args.bytes.now _ report c.in-Ok.ensures legal is

pub returns-in-Err-clause-refused : goal.returns-in-Err-clause-refused
returns-in-Err-clause-refused c = λ line is. refused_at c.args.bytes.now line (refused_as _ _ line c.in-Err.ensures is)
