use Rattle.brick_machine.proofs.Names.{bound}
use Rattle.brick_machine.proofs.brick.Brick.bind_names.Goals as goal

pub invariant_of-self : goal.invariant_of-self
invariant_of-self c = bound c.self.inside.made.items c.self.inside.inputs.items c.args.names c.self.inside.state _ c.self.inside.is_spent c.self.invariant c.bind_names.ensures
