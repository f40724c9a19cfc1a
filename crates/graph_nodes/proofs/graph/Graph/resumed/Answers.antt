use Rattle.std.proofs.Common.{refl, subst}
use Rattle.graph_nodes.specs.declared.moved.Mount.{Mount}
use Rattle.graph_nodes.proofs.Living.{work_of, called_keeps, called_clause}
use Rattle.graph_nodes.specs.Calls.{CallGives, EndsEarly, Gives, Wakes, running}
use Rattle.graph_nodes.proofs.Giving.{called_gives, called_early, if_ok_weaker}
use Rattle.graph_nodes.proofs.graph.Graph.resumed.Goals as goal

pub woken-moved-requires : goal.woken-moved-requires
woken-moved-requires c = record { work = work_of c.args.self.now c.borrow_from.new.self c.args.mount.now c.borrow_from.new.mount c.requires.live c.borrow_from.ensures.graph c.borrow_from.ensures.mount }

pub returns-clause-kept : goal.returns-clause-kept
returns-clause-kept c = called_keeps c.args.self.now c.borrow_from.new.self c.woken-moved.new.self c.give_back.new.self c.args.mount.now c.borrow_from.new.mount (record c.borrow_from.new.mount { parked = c.woken-moved.new.parked }) c.give_back.new.mount
    c.borrow_from.ensures.graph c.borrow_from.ensures.mount refl c.give_back.ensures.graph c.give_back.ensures.mount c.woken-moved.ensures.kept

pub returns-clause-live : goal.returns-clause-live
returns-clause-live c = called_clause c.args.self.now c.borrow_from.new.self c.woken-moved.new.self c.give_back.new.self c.args.mount.now c.borrow_from.new.mount (record c.borrow_from.new.mount { parked = c.woken-moved.new.parked }) c.give_back.new.mount
    c.borrow_from.ensures.graph c.borrow_from.ensures.mount refl c.give_back.ensures.graph c.give_back.ensures.mount c.woken-moved.ensures.kept c.woken-moved.result c.woken-moved.ensures.well

pub returns-clause-gives : goal.returns-clause-gives
returns-clause-gives c = if_ok_weaker (λ moved. Gives (Wakes c.borrow_from.new.mount.parked.keys c.args.frame c.borrow_from.new.self) c.borrow_from.new.self moved (running c.woken-moved.new.self)) (λ moved. CallGives (Wakes c.args.mount.now.parked.keys c.args.frame) c.args.self.now c.args.mount.now moved c.give_back.new.self c.give_back.new.mount) c.woken-moved.result
    (λ moved gives. called_gives c.args.self.now c.borrow_from.new.self c.woken-moved.new.self c.give_back.new.self c.args.mount.now c.borrow_from.new.mount (record c.borrow_from.new.mount { parked = c.woken-moved.new.parked }) c.give_back.new.mount
    c.borrow_from.ensures.graph c.give_back.ensures.graph c.give_back.ensures.mount (Wakes c.args.mount.now.parked.keys c.args.frame) moved
    (subst (λ (m : Mount). Gives (Wakes m.parked.keys c.args.frame c.borrow_from.new.self) c.borrow_from.new.self moved (running c.woken-moved.new.self)) c.borrow_from.ensures.mount gives)) c.woken-moved.ensures.gives

pub returns-clause-winds : goal.returns-clause-winds
returns-clause-winds c = λ is. called_early c.args.self.now c.borrow_from.new.self c.woken-moved.new.self c.give_back.new.self c.args.mount.now c.borrow_from.new.mount (record c.borrow_from.new.mount { parked = c.woken-moved.new.parked }) c.give_back.new.mount
    c.borrow_from.ensures.graph c.give_back.ensures.graph c.give_back.ensures.mount (Wakes c.args.mount.now.parked.keys c.args.frame)
    (subst (λ (m : Mount). EndsEarly (Wakes m.parked.keys c.args.frame c.borrow_from.new.self) c.borrow_from.new.self (running c.woken-moved.new.self)) c.borrow_from.ensures.mount (c.woken-moved.ensures.winds is))
