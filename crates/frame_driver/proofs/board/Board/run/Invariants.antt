use Rattle.std.specs.Prelude.{map}
use Rattle.frame_driver.specs.Total.{total}
use Rattle.frame_driver.proofs.Doing.{Running, quiet}
use Rattle.frame_driver.proofs.board.Board.run.Given as goal

abbrev pub invariant-loop-task : goal.invariant-loop-task
invariant-loop-task g l = Running g.X.Xlator.promise g.X.Xlator.makes (map g.X.Xlator.promise l.fn.nodes.items) (map g.X.Xlator.promise l.nodes.items) l.fn.wiring (record { nodes = l.fn.nodes.items; cx = l.fn.cx; board = l.fn.self }) (record { nodes = l.nodes.items; cx = l.cx; board = l.self })

abbrev pub decreases-loop-task : goal.decreases-loop-task
decreases-loop-task g l = total (quiet (map g.X.Xlator.promise l.fn.nodes.items) l.fn.self.graph) l.self
