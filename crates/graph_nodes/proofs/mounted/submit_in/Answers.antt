use Rattle.std.proofs.Common.{ap}
use Rattle.std.specs.Prelude.{ℕ, is_some}
use Rattle.std.specs.BTreeMap.{BTreeMap, keys}
use Rattle.graph_nodes.specs.declared.graph.Graph.{Graph}
use Rattle.graph_nodes.proofs.Together.{one_found, called_through, all_same}
use Rattle.graph_nodes.specs.Among.{submits}
use Rattle.graph_nodes.proofs.Among.{gives_at}
use Rattle.graph_nodes.proofs.Seen.{seen_clients, works_through, works_none}
use Rattle.graph_nodes.proofs.Clients.{enters_clients}
use Rattle.graph_nodes.specs.Seen.{same_clients}
use Rattle.graph_nodes.proofs.mounted.submit_in.Goals as goal

pub submit-requires-clause-live : goal.submit-requires-clause-live
submit-requires-clause-live c = one_found c.args.live.now c.args.number c.in-Some.graph.now c.args.mount.now c.requires.live c.in-Some.ensures.value

pub returns-in_ok-moved-in-Some-clause-live : goal.returns-in_ok-moved-in-Some-clause-live
returns-in_ok-moved-in-Some-clause-live c = called_through c.args.live.now _ c.args.number c.in-Some.graph.now c.submit.new.self c.args.mount.now c.submit.new.mount c.requires.live c.in-Some.ensures.value
    (c.get_mut.follows.holds c.submit.new.self) c.in_ok-moved-in-Some.ensures.live c.submit.ensures.kept

pub returns-in_ok-moved-in-Some-clause-numbers : goal.returns-in_ok-moved-in-Some-clause-numbers
returns-in_ok-moved-in-Some-clause-numbers c = (c.get_mut.follows.holds c.submit.new.self).1

pub returns-in_ok-moved-in-Some-clause-inodes : goal.returns-in_ok-moved-in-Some-clause-inodes
returns-in_ok-moved-in-Some-clause-inodes c = c.submit.ensures.kept.inodes

pub returns-in_err-moved-in-Some-clause-numbers : goal.returns-in_err-moved-in-Some-clause-numbers
returns-in_err-moved-in-Some-clause-numbers c = (c.get_mut.follows.holds c.submit.new.self).1

pub returns-in_err-moved-in-Some-clause-inodes : goal.returns-in_err-moved-in-Some-clause-inodes
returns-in_err-moved-in-Some-clause-inodes c = c.submit.ensures.kept.inodes

pub returns-in-None-clause-live : goal.returns-in-None-clause-live
returns-in-None-clause-live c = all_same c.args.live.now _ c.args.mount.now c.get_mut.follows.holds-at-none c.requires.live

pub returns-in-None-clause-numbers : goal.returns-in-None-clause-numbers
returns-in-None-clause-numbers c = ap (λ (m : BTreeMap ℕ Graph). keys m) c.get_mut.follows.holds-at-none

pub returns-in_ok-moved-in-Some-clause-there : goal.returns-in_ok-moved-in-Some-clause-there
returns-in_ok-moved-in-Some-clause-there c = ap is_some c.in-Some.ensures.value

pub returns-in-None-clause-there : goal.returns-in-None-clause-there
returns-in-None-clause-there c = ap is_some c.in-None.ensures.value

pub returns-in_ok-moved-in-Some-clause-gives : goal.returns-in_ok-moved-in-Some-clause-gives
returns-in_ok-moved-in-Some-clause-gives c = gives_at c.args.number (submits c.args.call c.args.fop) c.args.live.now _ c.in-Some.graph.now c.submit.new.self c.args.mount.now c.submit.new.mount c.in_ok-moved-in-Some.moved c.in-Some.ensures.value (c.get_mut.follows.holds c.submit.new.self) c.in_ok-moved-in-Some.ensures.gives

pub returns-in_ok-moved-in-Some-clause-graphs : goal.returns-in_ok-moved-in-Some-clause-graphs
returns-in_ok-moved-in-Some-clause-graphs c = works_through same_clients c.args.number c.args.live.now _ c.in-Some.graph.now c.submit.new.self c.in-Some.ensures.value (c.get_mut.follows.holds c.submit.new.self).0
    (ap seen_clients (enters_clients c.in-Some.graph.now c.args.mount.now c.in_ok-moved-in-Some.moved c.submit.new.self c.submit.new.mount c.args.call c.args.fop c.in_ok-moved-in-Some.ensures.gives))

pub returns-in-None-clause-graphs : goal.returns-in-None-clause-graphs
returns-in-None-clause-graphs c = works_none same_clients c.args.number c.args.live.now _ c.in-None.ensures.value c.get_mut.follows.holds-at-none
