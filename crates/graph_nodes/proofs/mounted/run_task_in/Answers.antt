use Rattle.std.proofs.Common.{ap}
use Rattle.std.proofs.lemmas.Result.{on_ok_weaker}
use Rattle.std.specs.Prelude.{ℕ}
use Rattle.std.specs.BTreeMap.{BTreeMap, get, keys}
use Rattle.std.specs.Ordering.{nat_cmp}
use Rattle.graph_nodes.specs.declared.graph.Graph.{Graph}
use Rattle.graph_nodes.proofs.Together.{one_found, called_through, all_same, not_absent}
use Rattle.graph_nodes.specs.Among.{runs_task}
use Rattle.graph_nodes.proofs.Among.{gives_at, some_weaker}
use Rattle.graph_nodes.proofs.Giving.{if_ok_weaker}
use Rattle.graph_nodes.proofs.Seen.{seen_clients, works_through, works_none}
use Rattle.graph_nodes.proofs.Clients.{ran_clients}
use Rattle.graph_nodes.specs.Seen.{same_clients}
use Rattle.graph_nodes.proofs.mounted.run_task_in.Goals as goal

pub run_task-requires : goal.run_task-requires
run_task-requires c = record { live = one_found c.args.live.now c.args.number c.in-Some.graph.now c.args.mount.now c.requires.live c.in-Some.ensures.value }

pub returns-in-Some-clause-live : goal.returns-in-Some-clause-live
returns-in-Some-clause-live c = on_ok_weaker c.run_task.result (λ live. called_through c.args.live.now _ c.args.number c.in-Some.graph.now c.run_task.new.self c.args.mount.now c.run_task.new.mount c.requires.live c.in-Some.ensures.value
    (c.get_mut.follows.holds c.run_task.new.self) live c.run_task.ensures.kept) c.run_task.ensures.live

pub returns-in-Some-clause-numbers : goal.returns-in-Some-clause-numbers
returns-in-Some-clause-numbers c = (c.get_mut.follows.holds c.run_task.new.self).1

pub returns-in-Some-clause-inodes : goal.returns-in-Some-clause-inodes
returns-in-Some-clause-inodes c = c.run_task.ensures.kept.inodes

pub returns-in-None-clause-live : goal.returns-in-None-clause-live
returns-in-None-clause-live c = all_same c.args.live.now _ c.args.mount.now c.get_mut.follows.holds-at-none c.requires.live

pub returns-in-None-clause-numbers : goal.returns-in-None-clause-numbers
returns-in-None-clause-numbers c = ap (λ (m : BTreeMap ℕ Graph). keys m) c.get_mut.follows.holds-at-none

pub returns-in-Some-clause-absent : goal.returns-in-Some-clause-absent
returns-in-Some-clause-absent c = not_absent _ c.in-Some.graph.now (get nat_cmp c.args.live.now c.args.number) c.in-Some.ensures.value

pub returns-in-Some-clause-gives : goal.returns-in-Some-clause-gives
returns-in-Some-clause-gives c = if_ok_weaker _ _ c.run_task.result (λ moved gives. some_weaker moved _ _ _ (λ m it. gives_at c.args.number (runs_task c.args.task) c.args.live.now _ c.in-Some.graph.now c.run_task.new.self c.args.mount.now c.run_task.new.mount m c.in-Some.ensures.value (c.get_mut.follows.holds c.run_task.new.self) it) gives) c.run_task.ensures.gives

pub returns-in-Some-clause-graphs : goal.returns-in-Some-clause-graphs
returns-in-Some-clause-graphs c = on_ok_weaker c.run_task.result (λ same. works_through same_clients c.args.number c.args.live.now _ c.in-Some.graph.now c.run_task.new.self c.in-Some.ensures.value (c.get_mut.follows.holds c.run_task.new.self).0 (ap seen_clients same))
    (ran_clients c.in-Some.graph.now c.args.mount.now c.run_task.new.self c.run_task.new.mount c.args.task c.args.mount.now.parked.keys c.run_task.result c.run_task.ensures.gives c.run_task.ensures.idle)

pub returns-in-None-clause-graphs : goal.returns-in-None-clause-graphs
returns-in-None-clause-graphs c = works_none same_clients c.args.number c.args.live.now _ c.in-None.ensures.value c.get_mut.follows.holds-at-none
