use Rattle.std.proofs.Common.{refl}
use Rattle.std.proofs.lemmas.Result.{on_ok_weaker}
use Rattle.graph_nodes.proofs.Living.{turned_live, turned_has, stays_then, keeps_from}
use Rattle.std.specs.BTreeMap.{get}
use Rattle.std.specs.Ordering.{nat_cmp}
use Rattle.graph_nodes.specs.Calls.{CallGives, Wakes}
use Rattle.graph_nodes.proofs.Giving.{held_gives, held_early, if_ok_weaker}
use Rattle.graph_nodes.proofs.graph.Graph.held.Goals as goal

pub resumed-requires : goal.resumed-requires
resumed-requires c = record { live = turned_has c.args.self.now _ c.args.mount.now (turned_live c.args.self.now _ c.args.mount.now refl refl refl refl) c.requires.live }

pub returns-clause-kept : goal.returns-clause-kept
returns-clause-kept c = keeps_from c.args.self.now _ c.resumed.new.self c.args.mount.now c.resumed.new.mount refl c.resumed.ensures.kept

pub returns-clause-live : goal.returns-clause-live
returns-clause-live c = on_ok_weaker c.resumed.result (λ live. stays_then c.args.self.now _ c.resumed.new.self c.args.mount.now c.args.mount.now c.resumed.new.mount (turned_live c.args.self.now _ c.args.mount.now refl refl refl refl) live) c.resumed.ensures.live

pub returns-clause-gives : goal.returns-clause-gives
returns-clause-gives c = if_ok_weaker (λ moved. CallGives (Wakes c.args.mount.now.parked.keys c.remove-frame.result) (record c.args.self.now { waits = c.remove-frame.new.self }) c.args.mount.now moved c.resumed.new.self c.resumed.new.mount) (λ moved. CallGives (Wakes c.args.mount.now.parked.keys (get nat_cmp c.args.self.now.waits c.args.call)) c.args.self.now c.args.mount.now moved c.resumed.new.self c.resumed.new.mount) c.resumed.result
    (λ moved gives. held_gives c.args.self.now c.remove-frame.new.self c.args.mount.now c.resumed.new.self c.resumed.new.mount c.args.call c.remove-frame.result c.remove-frame.ensures.value moved gives) c.resumed.ensures.gives

pub returns-clause-winds : goal.returns-clause-winds
returns-clause-winds c = λ is. held_early c.args.self.now c.remove-frame.new.self c.args.mount.now c.resumed.new.self c.resumed.new.mount c.args.call c.remove-frame.result c.remove-frame.ensures.value (c.resumed.ensures.winds is)
