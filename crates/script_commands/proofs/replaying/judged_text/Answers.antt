use Rattle.script_commands.proofs.ReportLines.{err_again}
use Rattle.script_commands.proofs.replaying.judged_text.Goals as goal

pub returns-in-Err-clause-refused : goal.returns-in-Err-clause-refused
returns-in-Err-clause-refused c = λ line is. c.in-Err.ensures.refused line (err_again _ _ is)
