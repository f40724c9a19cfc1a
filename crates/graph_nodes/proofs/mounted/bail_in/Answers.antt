use Rattle.std.proofs.Common.{ap, ◌∙◌}
use Rattle.std.specs.Prelude.{ℕ, is_some}
use Rattle.std.specs.BTreeMap.{BTreeMap, keys}
use Rattle.graph_nodes.specs.declared.graph.Graph.{Graph}
use Rattle.graph_nodes.proofs.Together.{one_found, called_through, all_same}
use Rattle.graph_nodes.specs.Among.{bails}
use Rattle.graph_nodes.proofs.Among.{gives_at}
use Rattle.graph_nodes.proofs.Seen.{seen_clients, ended_seen, works_through, works_none}
use Rattle.graph_nodes.proofs.Clients.{bails_clients}
use Rattle.graph_items.specs.Clients.{ended_at}
use Rattle.graph_nodes.proofs.mounted.bail_in.Goals as goal

pub bail-requires : goal.bail-requires
bail-requires c = record { live = one_found c.args.live.now c.args.number c.in-Some.graph.now c.args.mount.now c.requires.live c.in-Some.ensures.value }

pub returns-in_ok-bailed-in-Some-clause-live : goal.returns-in_ok-bailed-in-Some-clause-live
returns-in_ok-bailed-in-Some-clause-live c = called_through c.args.live.now _ c.args.number c.in-Some.graph.now c.bail.new.self c.args.mount.now c.bail.new.mount c.requires.live c.in-Some.ensures.value
    (c.get_mut.follows.holds c.bail.new.self) c.in_ok-bailed-in-Some.ensures.live c.bail.ensures.kept

pub returns-in_ok-bailed-in-Some-clause-numbers : goal.returns-in_ok-bailed-in-Some-clause-numbers
returns-in_ok-bailed-in-Some-clause-numbers c = (c.get_mut.follows.holds c.bail.new.self).1

pub returns-in_ok-bailed-in-Some-clause-inodes : goal.returns-in_ok-bailed-in-Some-clause-inodes
returns-in_ok-bailed-in-Some-clause-inodes c = c.bail.ensures.kept.inodes

pub returns-in_err-bailed-in-Some-clause-numbers : goal.returns-in_err-bailed-in-Some-clause-numbers
returns-in_err-bailed-in-Some-clause-numbers c = (c.get_mut.follows.holds c.bail.new.self).1

pub returns-in_err-bailed-in-Some-clause-inodes : goal.returns-in_err-bailed-in-Some-clause-inodes
returns-in_err-bailed-in-Some-clause-inodes c = c.bail.ensures.kept.inodes

pub returns-in-None-clause-live : goal.returns-in-None-clause-live
returns-in-None-clause-live c = all_same c.args.live.now _ c.args.mount.now c.get_mut.follows.holds-at-none c.requires.live

pub returns-in-None-clause-numbers : goal.returns-in-None-clause-numbers
returns-in-None-clause-numbers c = ap (λ (m : BTreeMap ℕ Graph). keys m) c.get_mut.follows.holds-at-none

pub returns-in_ok-bailed-in-Some-clause-there : goal.returns-in_ok-bailed-in-Some-clause-there
returns-in_ok-bailed-in-Some-clause-there c = ap is_some c.in-Some.ensures.value

pub returns-in-None-clause-there : goal.returns-in-None-clause-there
returns-in-None-clause-there c = ap is_some c.in-None.ensures.value

pub returns-in_ok-bailed-in-Some-clause-gives : goal.returns-in_ok-bailed-in-Some-clause-gives
returns-in_ok-bailed-in-Some-clause-gives c = gives_at c.args.number (bails c.args.brick c.in_ok-bailed-in-Some.bailed.0) c.args.live.now _ c.in-Some.graph.now c.bail.new.self c.args.mount.now c.bail.new.mount c.in_ok-bailed-in-Some.bailed.1 c.in-Some.ensures.value (c.get_mut.follows.holds c.bail.new.self) c.in_ok-bailed-in-Some.ensures.gives

pub returns-in_ok-bailed-in-Some-clause-graphs : goal.returns-in_ok-bailed-in-Some-clause-graphs
returns-in_ok-bailed-in-Some-clause-graphs c = works_through (λ cs. ended_at cs c.args.brick) c.args.number c.args.live.now _ c.in-Some.graph.now c.bail.new.self c.in-Some.ensures.value (c.get_mut.follows.holds c.bail.new.self).0
    (ap seen_clients (bails_clients c.in-Some.graph.now c.args.mount.now c.in_ok-bailed-in-Some.bailed.1 c.bail.new.self c.bail.new.mount c.args.brick c.in_ok-bailed-in-Some.bailed.0 c.in_ok-bailed-in-Some.ensures.gives) ∙ ended_seen c.in-Some.graph.now.cx.clients c.args.brick)

pub returns-in-None-clause-graphs : goal.returns-in-None-clause-graphs
returns-in-None-clause-graphs c = works_none (λ cs. ended_at cs c.args.brick) c.args.number c.args.live.now _ c.in-None.ensures.value c.get_mut.follows.holds-at-none
