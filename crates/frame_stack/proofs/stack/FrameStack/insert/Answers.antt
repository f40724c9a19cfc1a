use Rattle.std.proofs.Common.{rules}
use Rattle.frame_stack.proofs.Leads.{leads_open}
use Rattle.frame_stack.proofs.stack.FrameStack.insert.Goals as goal

pub returns-clause-leads : goal.returns-clause-leads
returns-clause-leads g c = leads_open c.args.self.now _ c.in_ok-key.key (record { place = c.args.place; local = c.args.local }) c.requires.parent (search rules) (search rules)
