use Rattle.std.proofs.Common.{ap}
use Rattle.std.specs.Prelude.{ℕ, is_some}
use Rattle.std.specs.BTreeMap.{BTreeMap, keys}
use Rattle.graph_nodes.specs.declared.graph.Graph.{Graph}
use Rattle.graph_nodes.specs.Ready.{tasks_in}
use Rattle.graph_nodes.proofs.Ready.{called_tasks}
use Rattle.graph_nodes.proofs.Together.{called_through, all_same}
use Rattle.graph_nodes.specs.Seen.{seen_in}
use Rattle.graph_nodes.proofs.Seen.{seen_through}
use Rattle.graph_nodes.proofs.mounted.drop_pages_in.Goals as goal

pub returns-in-Some-clause-live : goal.returns-in-Some-clause-live
returns-in-Some-clause-live c = λ mount all. called_through c.args.live.now _ c.args.number c.in-Some.graph.now c.drop_pages_of.new.graph mount mount all c.in-Some.ensures.value
    (c.get_mut.follows.holds c.drop_pages_of.new.graph) (c.drop_pages_of.ensures.stays mount) (c.drop_pages_of.ensures.kept mount)

pub returns-in-Some-clause-numbers : goal.returns-in-Some-clause-numbers
returns-in-Some-clause-numbers c = (c.get_mut.follows.holds c.drop_pages_of.new.graph).1

pub returns-in-None-clause-live : goal.returns-in-None-clause-live
returns-in-None-clause-live c = λ mount all. all_same c.args.live.now _ mount c.get_mut.follows.holds-at-none all

pub returns-in-None-clause-numbers : goal.returns-in-None-clause-numbers
returns-in-None-clause-numbers c = ap (λ (m : BTreeMap ℕ Graph). keys m) c.get_mut.follows.holds-at-none

pub returns-in-Some-clause-there : goal.returns-in-Some-clause-there
returns-in-Some-clause-there c = ap is_some c.in-Some.ensures.value

pub returns-in-None-clause-there : goal.returns-in-None-clause-there
returns-in-None-clause-there c = ap is_some c.in-None.ensures.value

pub returns-in-Some-clause-tasks : goal.returns-in-Some-clause-tasks
returns-in-Some-clause-tasks c = called_tasks c.args.live.now _ c.args.number c.in-Some.graph.now c.drop_pages_of.new.graph c.in-Some.ensures.value (c.get_mut.follows.holds c.drop_pages_of.new.graph).0 c.drop_pages_of.ensures.ready

pub returns-in-None-clause-tasks : goal.returns-in-None-clause-tasks
returns-in-None-clause-tasks c = ap (λ (m : BTreeMap ℕ Graph). tasks_in m.entries) c.get_mut.follows.holds-at-none

pub returns-in-Some-clause-graphs : goal.returns-in-Some-clause-graphs
returns-in-Some-clause-graphs c = seen_through c.args.live.now _ c.args.number c.in-Some.graph.now c.drop_pages_of.new.graph c.in-Some.ensures.value (c.get_mut.follows.holds c.drop_pages_of.new.graph).0 c.drop_pages_of.ensures.seen

pub returns-in-None-clause-graphs : goal.returns-in-None-clause-graphs
returns-in-None-clause-graphs c = ap (λ (m : BTreeMap ℕ Graph). seen_in m.entries) c.get_mut.follows.holds-at-none
