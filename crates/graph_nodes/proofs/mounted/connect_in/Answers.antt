use Rattle.std.proofs.Common.{ap, sym, ◌∙◌}
use Rattle.std.specs.Prelude.{ℕ, Option}
use Rattle.std.specs.BTreeMap.{BTreeMap, get, keys}
use Rattle.std.specs.Ordering.{nat_cmp}
use Rattle.graph_nodes.specs.declared.graph.Graph.{Graph}
use Rattle.graph_nodes.specs.Ready.{tasks_in}
use Rattle.graph_nodes.proofs.Ready.{called_tasks}
use Rattle.graph_nodes.proofs.Together.{called_through, all_same, not_absent}
use Rattle.graph_nodes.specs.Seen.{SeenGraph, connects, next_by}
use Rattle.graph_nodes.proofs.Seen.{changes_through, changes_none, graph_seen, same_next}
use Rattle.graph_nodes.proofs.mounted.connect_in.Goals as goal

pub returns-in-Some-clause-live : goal.returns-in-Some-clause-live
returns-in-Some-clause-live c = λ mount all. called_through c.args.live.now _ c.args.number c.in-Some.graph.now c.connect_next.new.graph mount mount all c.in-Some.ensures.value
    (c.get_mut.follows.holds c.connect_next.new.graph) (c.connect_next.ensures.stays mount) (c.connect_next.ensures.kept mount)

pub returns-in-Some-clause-numbers : goal.returns-in-Some-clause-numbers
returns-in-Some-clause-numbers c = (c.get_mut.follows.holds c.connect_next.new.graph).1

pub returns-in-None-clause-live : goal.returns-in-None-clause-live
returns-in-None-clause-live c = λ mount all. all_same c.args.live.now _ mount c.get_mut.follows.holds-at-none all

pub returns-in-None-clause-numbers : goal.returns-in-None-clause-numbers
returns-in-None-clause-numbers c = ap (λ (m : BTreeMap ℕ Graph). keys m) c.get_mut.follows.holds-at-none

pub returns-in-Some-clause-absent : goal.returns-in-Some-clause-absent
returns-in-Some-clause-absent c = not_absent _ c.in-Some.graph.now (get nat_cmp c.args.live.now c.args.number) c.in-Some.ensures.value

pub returns-in-Some-clause-tasks : goal.returns-in-Some-clause-tasks
returns-in-Some-clause-tasks c = called_tasks c.args.live.now _ c.args.number c.in-Some.graph.now c.connect_next.new.graph c.in-Some.ensures.value (c.get_mut.follows.holds c.connect_next.new.graph).0 c.connect_next.ensures.ready

pub returns-in-None-clause-tasks : goal.returns-in-None-clause-tasks
returns-in-None-clause-tasks c = ap (λ (m : BTreeMap ℕ Graph). tasks_in m.entries) c.get_mut.follows.holds-at-none

pub returns-in-Some-clause-number : goal.returns-in-Some-clause-number
returns-in-Some-clause-number c = c.connect_next.ensures.number ∙ sym (same_next c.in-Some.graph.now.cx.clients c.args.brick) ∙ ap (λ (o : Option SeenGraph). next_by o c.args.brick) (sym (graph_seen c.args.live.now c.args.number _ c.in-Some.ensures.value))

pub returns-in-None-clause-number : goal.returns-in-None-clause-number
returns-in-None-clause-number c = ap (λ (o : Option SeenGraph). next_by o c.args.brick) (sym (graph_seen c.args.live.now c.args.number _ c.in-None.ensures.value))

pub returns-in-Some-clause-connects : goal.returns-in-Some-clause-connects
returns-in-Some-clause-connects c = changes_through (connects c.args.brick) c.args.number c.args.live.now _ c.in-Some.graph.now c.connect_next.new.graph c.in-Some.ensures.value (c.get_mut.follows.holds c.connect_next.new.graph).0 c.connect_next.ensures.connects

pub returns-in-None-clause-connects : goal.returns-in-None-clause-connects
returns-in-None-clause-connects c = changes_none (connects c.args.brick) c.args.number c.args.live.now _ c.in-None.ensures.value c.get_mut.follows.holds-at-none
