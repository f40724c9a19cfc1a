use Rattle.std.proofs.Common.{sym, ap, ◌∙◌}
use Rattle.std.specs.Prelude.{not}
use Rattle.graph_nodes.proofs.Together.{made_all, absent_by, put_numbers, same_numbers}
use Rattle.graph_nodes.proofs.Ready.{put_tasks}
use Rattle.graph_nodes.proofs.Seen.{made_seen}
use Rattle.graph_nodes.proofs.making.make_in.Goals as goal

pub returns-clause-live : goal.returns-clause-live
returns-clause-live c = λ mount all. made_all c.args.live.now c.insert.new.self c.args.number c.in_ok-graph.graph mount all
    (absent_by _ (sym c.contains_key-there.ensures ∙ c.if-there.false)) c.in_ok-insert.ensures.updates.0 c.in_ok-graph.ensures.board c.in_ok-graph.ensures.fits c.in_ok-graph.ensures.top

pub returns-clause-numbers : goal.returns-clause-numbers
returns-clause-numbers c = put_numbers c.args.live.now c.insert.new.self c.args.number c.in_ok-graph.graph c.in_ok-insert.ensures.updates.0

pub returns-then-there-clause-live : goal.returns-then-there-clause-live
returns-then-there-clause-live c = λ mount all. all

pub returns-then-there-clause-numbers : goal.returns-then-there-clause-numbers
returns-then-there-clause-numbers c = same_numbers c.args.live.now c.args.number (sym c.contains_key-there.ensures ∙ c.if-there.true)

pub returns-clause-made : goal.returns-clause-made
returns-clause-made c = ap not (sym c.if-there.false ∙ c.contains_key-there.ensures)

pub returns-then-there-clause-made : goal.returns-then-there-clause-made
returns-then-there-clause-made c = ap not (sym c.if-there.true ∙ c.contains_key-there.ensures)

pub returns-clause-graphs : goal.returns-clause-graphs
returns-clause-graphs c = made_seen c.args.live.now c.insert.new.self c.args.plan.now c.args.number c.in_ok-graph.graph c.in_ok-insert.ensures.entries c.in_ok-graph.ensures.board c.in_ok-graph.ensures.clients

pub returns-clause-tasks : goal.returns-clause-tasks
returns-clause-tasks c = put_tasks c.args.live.now c.insert.new.self c.args.number c.in_ok-graph.graph (absent_by _ (sym c.contains_key-there.ensures ∙ c.if-there.false)) c.in_ok-insert.ensures.entries c.in_ok-graph.ensures.ready
