use Rattle.std.proofs.Common.{refl}
use Rattle.graph_nodes.proofs.Living.{work_of, called_keeps, called_clause}
use Rattle.graph_nodes.specs.Calls.{Bails, BailsSome, CallGives, Gives, running}
use Rattle.graph_nodes.proofs.Giving.{called_gives, called_early, if_ok_weaker}
use Rattle.graph_nodes.proofs.graph.Graph.bail.Goals as goal

pub bailed-bailed-requires : goal.bailed-bailed-requires
bailed-bailed-requires c = record { work = work_of c.args.self.now c.borrow_from.new.self c.args.mount.now c.borrow_from.new.mount c.requires.live c.borrow_from.ensures.graph c.borrow_from.ensures.mount }

pub returns-clause-kept : goal.returns-clause-kept
returns-clause-kept c = called_keeps c.args.self.now c.borrow_from.new.self c.bailed-bailed.new.self c.give_back.new.self c.args.mount.now c.borrow_from.new.mount (record c.borrow_from.new.mount { parked = c.bailed-bailed.new.parked }) c.give_back.new.mount
    c.borrow_from.ensures.graph c.borrow_from.ensures.mount refl c.give_back.ensures.graph c.give_back.ensures.mount c.bailed-bailed.ensures.kept

pub returns-clause-live : goal.returns-clause-live
returns-clause-live c = called_clause c.args.self.now c.borrow_from.new.self c.bailed-bailed.new.self c.give_back.new.self c.args.mount.now c.borrow_from.new.mount (record c.borrow_from.new.mount { parked = c.bailed-bailed.new.parked }) c.give_back.new.mount
    c.borrow_from.ensures.graph c.borrow_from.ensures.mount refl c.give_back.ensures.graph c.give_back.ensures.mount c.bailed-bailed.ensures.kept c.bailed-bailed.result c.bailed-bailed.ensures.well

pub returns-clause-gives : goal.returns-clause-gives
returns-clause-gives c = if_ok_weaker (λ r. Gives ((Bails c.args.brick r.0) c.borrow_from.new.self) c.borrow_from.new.self r.1 (running c.bailed-bailed.new.self)) (λ r. CallGives (Bails c.args.brick r.0) c.args.self.now c.args.mount.now r.1 c.give_back.new.self c.give_back.new.mount) c.bailed-bailed.result
    (λ r gives. called_gives c.args.self.now c.borrow_from.new.self c.bailed-bailed.new.self c.give_back.new.self c.args.mount.now c.borrow_from.new.mount (record c.borrow_from.new.mount { parked = c.bailed-bailed.new.parked }) c.give_back.new.mount
    c.borrow_from.ensures.graph c.give_back.ensures.graph c.give_back.ensures.mount (Bails c.args.brick r.0) r.1 gives) c.bailed-bailed.ensures.gives

pub returns-clause-winds : goal.returns-clause-winds
returns-clause-winds c = λ is. called_early c.args.self.now c.borrow_from.new.self c.bailed-bailed.new.self c.give_back.new.self c.args.mount.now c.borrow_from.new.mount (record c.borrow_from.new.mount { parked = c.bailed-bailed.new.parked }) c.give_back.new.mount
    c.borrow_from.ensures.graph c.give_back.ensures.graph c.give_back.ensures.mount (BailsSome c.args.brick) (c.bailed-bailed.ensures.winds is)
