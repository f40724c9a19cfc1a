use Rattle.std.proofs.Common.{refl}
use Rattle.graph_nodes.proofs.Living.{work_of, top_of, called_keeps, called_clause}
use Rattle.graph_nodes.specs.Calls.{CallGives, Enters, Gives, running}
use Rattle.graph_nodes.proofs.Giving.{called_gives, called_early, if_ok_weaker}
use Rattle.graph_nodes.proofs.graph.Graph.submit.Goals as goal

pub entered-moved-requires-clause-work : goal.entered-moved-requires-clause-work
entered-moved-requires-clause-work c = work_of c.args.self.now c.borrow_from.new.self c.args.mount.now c.borrow_from.new.mount c.requires.live c.borrow_from.ensures.graph c.borrow_from.ensures.mount

pub entered-moved-requires-clause-top : goal.entered-moved-requires-clause-top
entered-moved-requires-clause-top c = top_of c.args.self.now c.borrow_from.new.self c.args.mount.now c.requires.live c.borrow_from.ensures.graph

pub returns-clause-kept : goal.returns-clause-kept
returns-clause-kept c = called_keeps c.args.self.now c.borrow_from.new.self c.entered-moved.new.self c.give_back.new.self c.args.mount.now c.borrow_from.new.mount (record c.borrow_from.new.mount { parked = c.entered-moved.new.parked }) c.give_back.new.mount
    c.borrow_from.ensures.graph c.borrow_from.ensures.mount refl c.give_back.ensures.graph c.give_back.ensures.mount c.entered-moved.ensures.kept

pub returns-clause-live : goal.returns-clause-live
returns-clause-live c = called_clause c.args.self.now c.borrow_from.new.self c.entered-moved.new.self c.give_back.new.self c.args.mount.now c.borrow_from.new.mount (record c.borrow_from.new.mount { parked = c.entered-moved.new.parked }) c.give_back.new.mount
    c.borrow_from.ensures.graph c.borrow_from.ensures.mount refl c.give_back.ensures.graph c.give_back.ensures.mount c.entered-moved.ensures.kept c.entered-moved.result c.entered-moved.ensures.well

pub returns-clause-gives : goal.returns-clause-gives
returns-clause-gives c = if_ok_weaker (λ moved. Gives ((Enters c.args.call c.args.fop) c.borrow_from.new.self) c.borrow_from.new.self moved (running c.entered-moved.new.self)) (λ moved. CallGives (Enters c.args.call c.args.fop) c.args.self.now c.args.mount.now moved c.give_back.new.self c.give_back.new.mount) c.entered-moved.result
    (λ moved gives. called_gives c.args.self.now c.borrow_from.new.self c.entered-moved.new.self c.give_back.new.self c.args.mount.now c.borrow_from.new.mount (record c.borrow_from.new.mount { parked = c.entered-moved.new.parked }) c.give_back.new.mount
    c.borrow_from.ensures.graph c.give_back.ensures.graph c.give_back.ensures.mount (Enters c.args.call c.args.fop) moved gives) c.entered-moved.ensures.gives

pub returns-clause-winds : goal.returns-clause-winds
returns-clause-winds c = λ is. called_early c.args.self.now c.borrow_from.new.self c.entered-moved.new.self c.give_back.new.self c.args.mount.now c.borrow_from.new.mount (record c.borrow_from.new.mount { parked = c.entered-moved.new.parked }) c.give_back.new.mount
    c.borrow_from.ensures.graph c.give_back.ensures.graph c.give_back.ensures.mount (Enters c.args.call c.args.fop) (c.entered-moved.ensures.winds is)
