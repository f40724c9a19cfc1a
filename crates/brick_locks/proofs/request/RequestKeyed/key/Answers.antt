use Rattle.std.proofs.Common.{◌-◌, arith}
use Rattle.brick_locks.specs.Keys.{cell_key, owner_key, graph_key}
use Rattle.brick_locks.proofs.Touches.{key_at}
use Rattle.brick_locks.proofs.request.RequestKeyed.key.Goals as goal

pub returns : goal.returns
returns c = key_at (λ d. cell_key d c.args.self.now.shared) c.args.self.now.cells _ c.args.at (c.args.at - 2) (owner_key c.args.self.now.owner) (graph_key c.args.self.now.owner.graph) _ c.cell_key.result (omega arith) c.requires c.as_slice.ensures c.cell_key.ensures
