use Rattle.std.proofs.Common.{refl, ap, sym, ◌∙◌}
use Rattle.std.specs.Prelude.{ℕ, Some, true, false, map}
use Rattle.frame_driver.specs.declared.board.Board.{Board}
use Rattle.graph_items.specs.declared.items.Down.{Down}
use Rattle.graph_items.specs.declared.items.Up.{Up}
use Rattle.graph_nodes.specs.declared.context.Context.{Context}
use Rattle.graph_nodes.specs.declared.locals.Local.{Local}
use Rattle.graph_nodes.specs.Promises.{node_promise}
use Rattle.graph_nodes.proofs.Living.{turned_live, keeps_all}
use Rattle.graph_nodes.proofs.Seen.{seen_connected, seen_unconnected, next_is}
use Rattle.graph_nodes.proofs.mounted.connect_next.Goals as goal

pub returns-then-free-clause-stays : goal.returns-then-free-clause-stays
returns-then-free-clause-stays c = λ mount. turned_live c.args.graph.now c.connect-number.new.self mount c.connect-number.ensures.board c.connect-number.ensures.wiring c.connect-number.ensures.top (ap (map node_promise) c.connect-number.ensures.nodes)

pub returns-then-free-clause-kept : goal.returns-then-free-clause-kept
returns-then-free-clause-kept c = λ mount. keeps_all c.args.graph.now c.connect-number.new.self mount (ap (λ (b : Board Down Up Local). b.graph) c.connect-number.ensures.board)

pub returns-clause-stays : goal.returns-clause-stays
returns-clause-stays c = λ mount ps live. live

pub returns-clause-kept : goal.returns-clause-kept
returns-clause-kept c = λ mount. keeps_all c.args.graph.now c.args.graph.now mount refl

pub returns-then-free-clause-ready : goal.returns-then-free-clause-ready
returns-then-free-clause-ready c = ap (λ (x : Context). x.ready.keys) c.connect-number.ensures.connected

pub returns-then-free-clause-connects : goal.returns-then-free-clause-connects
returns-then-free-clause-connects c = seen_connected c.args.graph.now c.args.brick c.connect-number.new.self (sym c.may_connect-free.ensures.exact ∙ c.if-free.true) c.connect-number.ensures.board c.connect-number.ensures.connected

pub returns-clause-connects : goal.returns-clause-connects
returns-clause-connects c = seen_unconnected c.args.graph.now c.args.brick (sym c.may_connect-free.ensures.exact ∙ c.if-free.false)

pub returns-then-free-clause-number : goal.returns-then-free-clause-number
returns-then-free-clause-number c = ap (λ (n : ℕ). Some n) c.connect-number.ensures.number ∙ next_is c.args.graph.now.cx.clients c.args.brick true (sym c.may_connect-free.ensures.exact ∙ c.if-free.true)

pub returns-clause-number : goal.returns-clause-number
returns-clause-number c = next_is c.args.graph.now.cx.clients c.args.brick false (sym c.may_connect-free.ensures.exact ∙ c.if-free.false)
