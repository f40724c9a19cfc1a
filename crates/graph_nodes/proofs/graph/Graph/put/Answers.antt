use Rattle.std.proofs.Common.{refl, ap}
use Rattle.frame_driver.specs.declared.board.Board.{Board}
use Rattle.graph_items.specs.declared.items.Down.{Down}
use Rattle.graph_items.specs.declared.items.Up.{Up}
use Rattle.graph_nodes.specs.declared.locals.Local.{Local}
use Rattle.graph_nodes.proofs.Living.{others_same, submitted_works}
use Rattle.graph_nodes.proofs.graph.Graph.put.Goals as goal

pub returns-clause-kept : goal.returns-clause-kept
returns-clause-kept c = record {
  number = ap (λ (b : Board Down Up Local). b.graph) c.in_ok-submit.ensures.submitted;
  top = refl;
  wiring = refl;
  promises = refl;
  others = others_same c.args.self.now.board.graph c.args.self.now.board.stack _ (ap (λ (b : Board Down Up Local). b.stack) c.in_ok-submit.ensures.submitted);
}

pub returns-clause-works : goal.returns-clause-works
returns-clause-works c = λ parked ps is. submitted_works c.args.self.now.board c.submit.new.self c.args.self.now.nodes.items c.args.self.now.top c.requires.top
    (ap (λ (b : Board Down Up Local). b.graph) c.in_ok-submit.ensures.submitted) c.in_ok-submit.ensures.sound c.in_ok-submit.ensures.held parked ps c.args.self.now.wiring is

pub returns-in_err-submit-clause-kept : goal.returns-in_err-submit-clause-kept
returns-in_err-submit-clause-kept c = record {
  number = ap (λ (b : Board Down Up Local). b.graph) c.in_err-submit.ensures.err;
  top = refl;
  wiring = refl;
  promises = refl;
  others = others_same c.args.self.now.board.graph c.args.self.now.board.stack _ (ap (λ (b : Board Down Up Local). b.stack) c.in_err-submit.ensures.err);
}
