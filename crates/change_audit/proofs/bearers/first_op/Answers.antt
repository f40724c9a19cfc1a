use Rattle.std.proofs.Common.{sym}
use Rattle.change_audit.proofs.Requests.{first_none}
use Rattle.change_audit.proofs.bearers.first_op.Goals as goal

pub returns-clause-none : goal.returns-clause-none
returns-clause-none c = first_none c.input_at.result c.args.bricks.now c.args.bearers.now c.in_ok-first.first.now (sym c.in_ok-first.ensures.value) c.input_at.ensures.none
