use Rattle.std.proofs.Common.{rules, Some}
use Rattle.frame_stack.proofs.Leads.{local_to}
use Rattle.frame_stack.proofs.stack.FrameStack.put.Goals as goal

pub returns-clause-leads : goal.returns-clause-leads
returns-clause-leads g c = local_to c.args.self.now _ c.args.frame (Some c.args.local) (search rules)
