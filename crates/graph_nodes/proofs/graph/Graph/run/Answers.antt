use Rattle.std.proofs.Common.{refl, ap, ◌∙◌}
use Rattle.frame_driver.specs.declared.board.Board.{Board}
use Rattle.graph_items.specs.declared.items.Down.{Down}
use Rattle.graph_items.specs.declared.items.Up.{Up}
use Rattle.frame_driver.proofs.Looping.{handed_on}
use Rattle.graph_nodes.specs.declared.locals.Local.{Local}
use Rattle.graph_nodes.proofs.Living.{fine_with, others_same, others_both, others_listed, ran_works, parked_once, ran_settles}
use Rattle.graph_nodes.proofs.Giving.{run_gives, run_early}
use Rattle.graph_nodes.proofs.graph.Graph.run.Goals as goal

pub run-requires-clause-fits : goal.run-requires-clause-fits
run-requires-clause-fits c = c.requires.work.works.fits

pub run-requires-clause-sound : goal.run-requires-clause-sound
run-requires-clause-sound c = fine_with c.args.self.now c.args.parked.now.keys c.requires.work

pub collect-requires : goal.collect-requires
collect-requires c = record {
  once = parked_once c.requires.work.all c.run.new.nodes.items c.args.self.now.wiring c.run.new.self c.args.parked.now.keys
      (ran_works c.args.self.now.nodes.items c.run.new.nodes.items c.args.self.now.wiring c.args.self.now.board c.run.new.self c.run.ensures.same c.run.ensures.leads.same c.in_ok-run.ensures.sound c.in_ok-run.ensures.held c.requires.work.all c.args.parked.now.keys c.requires.work.works);
}

pub returns-clause-kept : goal.returns-clause-kept
returns-clause-kept c = record {
  number = ap (λ (b : Board Down Up Local). b.graph) c.in_ok-moved.ensures.board ∙ c.run.ensures.leads.same;
  top = refl;
  wiring = refl;
  promises = c.run.ensures.same;
  others = others_listed c.args.self.now.board.graph c.args.self.now.board.stack c.run.new.self.stack _ c.run.ensures.leads.others (ap (λ (b : Board Down Up Local). b.stack) c.in_ok-moved.ensures.board);
}

pub returns-clause-well : goal.returns-clause-well
returns-clause-well c = ran_settles c.args.self.now _ c.run.new.self c.args.parked.now.keys _
    (λ ps is. ran_works c.args.self.now.nodes.items c.run.new.nodes.items c.args.self.now.wiring c.args.self.now.board c.run.new.self c.run.ensures.same c.run.ensures.leads.same c.in_ok-run.ensures.sound c.in_ok-run.ensures.held ps c.args.parked.now.keys is)
    c.in_ok-run.ensures.empty c.in_ok-moved.ensures.board c.in_ok-moved.ensures.parked

pub returns-in_err-run-clause-kept : goal.returns-in_err-run-clause-kept
returns-in_err-run-clause-kept c = record { number = c.run.ensures.leads.same; top = refl; wiring = refl; promises = c.run.ensures.same; others = c.run.ensures.leads.others }

pub returns-in_err-moved-clause-kept : goal.returns-in_err-moved-clause-kept
returns-in_err-moved-clause-kept c = record {
  number = c.in_err-moved.ensures.err.0 ∙ c.run.ensures.leads.same;
  top = refl;
  wiring = refl;
  promises = c.run.ensures.same;
  others = others_both c.args.self.now.board.graph c.args.self.now.board.stack c.run.new.self.stack _ c.run.ensures.leads.others (others_same c.args.self.now.board.graph c.run.new.self.stack _ c.in_err-moved.ensures.err.1);
}

pub returns-clause-gives : goal.returns-clause-gives
returns-clause-gives c = run_gives c.args.self.now c.run.new.nodes.items c.as_slice.result.now c.run.new.cx _ c.run.new.self _ c.in_ok-moved.moved c.in_ok-run.ensures.ran c.in_ok-run.ensures.empty c.as_slice.ensures.value c.in_ok-moved.ensures.moved c.in_ok-moved.ensures.cx c.in_ok-moved.ensures.board

pub returns-in_err-run-clause-winds : goal.returns-in_err-run-clause-winds
returns-in_err-run-clause-winds c = λ is. run_early c.args.self.now _ (c.in_err-run.ensures.winds (handed_on c.from_residual.result c.in_err-run.field-0.0 _ c.from_residual.ensures.1 is))
