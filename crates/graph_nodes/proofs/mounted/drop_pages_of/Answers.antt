use Rattle.std.proofs.Common.{ap}
use Rattle.frame_driver.specs.declared.board.Board.{Board}
use Rattle.graph_items.specs.declared.items.Down.{Down}
use Rattle.graph_items.specs.declared.items.Up.{Up}
use Rattle.graph_nodes.specs.declared.context.Context.{Context}
use Rattle.graph_nodes.specs.declared.locals.Local.{Local}
use Rattle.graph_nodes.proofs.Living.{turned_live, keeps_all}
use Rattle.graph_nodes.proofs.Seen.{seen_same}
use Rattle.graph_nodes.proofs.mounted.drop_pages_of.Goals as goal

pub returns-clause-stays : goal.returns-clause-stays
returns-clause-stays c = λ mount. turned_live c.args.graph.now c.drop_pages.new.self mount c.drop_pages.ensures.board c.drop_pages.ensures.wiring c.drop_pages.ensures.top c.drop_pages.ensures.promises

pub returns-clause-kept : goal.returns-clause-kept
returns-clause-kept c = λ mount. keeps_all c.args.graph.now c.drop_pages.new.self mount (ap (λ (b : Board Down Up Local). b.graph) c.drop_pages.ensures.board)

pub returns-clause-ready : goal.returns-clause-ready
returns-clause-ready c = ap (λ (x : Context). x.ready.keys) c.drop_pages.ensures.cx

pub returns-clause-seen : goal.returns-clause-seen
returns-clause-seen c = seen_same c.args.graph.now c.drop_pages.new.self c.drop_pages.ensures.board c.drop_pages.ensures.cx
