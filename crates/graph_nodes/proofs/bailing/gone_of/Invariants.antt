use Rattle.std.proofs.Common.{◌≡◌, ◌++◌, length}
use Rattle.std.specs.BTreeMap.{values}
use Rattle.frame_driver.specs.Bailing.{AreOurs}
use Rattle.graph_nodes.specs.Calls.{gone_of}
use Rattle.graph_nodes.proofs.bailing.gone_of.Given as goal

abbrev pub invariant-loop-first : goal.invariant-loop-first
invariant-loop-first l = AreOurs l.board.stack l.board.graph l.winds.items × (l.winds.items ++ gone_of l.board l.mark (values l.rest) ≡ gone_of l.board l.mark (values l.fn.waiting))

abbrev pub decreases-loop-first : goal.decreases-loop-first
decreases-loop-first l = length l.rest.entries
