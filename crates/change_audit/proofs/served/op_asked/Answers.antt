use Rattle.change_audit.proofs.Requests.{no_op}
use Rattle.change_audit.proofs.served.op_asked.Goals as goal

pub returns-then-of-graph-clause-none : goal.returns-then-of-graph-clause-none
returns-then-of-graph-clause-none c = no_op c.op_of.result _ c.args.graph _ c.args.change _ c.args.input.now c.in-Request.is c.op_of.ensures.none
