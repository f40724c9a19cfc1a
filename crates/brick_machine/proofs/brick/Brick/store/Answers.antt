use Rattle.brick_machine.proofs.Names.{store_is}
use Rattle.brick_machine.proofs.brick.Brick.store.Goals as goal

pub returns : goal.returns
returns c = store_is c.self.inside.made.items c.self.inside.inputs.items c.self.inside.state c.self.inside.is_spent c.args.self.now c.self.view_is c.self.invariant
