use Rattle.frame_driver.proofs.Looping.{handed_on}
use Rattle.graph_nodes.proofs.Living.{work_then, keeps_then, settles_then}
use Rattle.graph_nodes.specs.Calls.{running, Bails, BailsSome}
use Rattle.graph_nodes.proofs.Giving.{gives_then, early_then}
use Rattle.graph_nodes.proofs.graph.Graph.bailed.Goals as goal

pub run-requires : goal.run-requires
run-requires c = record { work = work_then c.args.self.now _ c.args.parked.now.keys c.requires.work c.in_ok-won.ensures.works }

pub returns-clause-kept : goal.returns-clause-kept
returns-clause-kept c = keeps_then c.args.self.now c.end_at.new.self _ c.end_at.ensures.kept c.run.ensures.kept

pub returns-clause-well : goal.returns-clause-well
returns-clause-well c = settles_then c.args.self.now c.end_at.new.self _ c.args.parked.now.keys _ c.in_ok-won.ensures.works c.in_ok-moved.ensures.well

pub returns-in_err-moved-clause-kept : goal.returns-in_err-moved-clause-kept
returns-in_err-moved-clause-kept c = keeps_then c.args.self.now c.end_at.new.self _ c.end_at.ensures.kept c.run.ensures.kept

pub returns-clause-gives : goal.returns-clause-gives
returns-clause-gives c = gives_then c.args.self.now c.end_at.new.self (Bails c.args.brick c.at_most_u32.result c.args.self.now) c.end_at.ensures.kept.promises c.end_at.ensures.kept.wiring (record { won = c.in_ok-won.won; count_is = c.at_most_u32.ensures; ends = c.in_ok-won.ensures.ends }) (running c.run.new.self) c.in_ok-moved.moved c.in_ok-moved.ensures.gives

pub returns-in_err-moved-clause-winds : goal.returns-in_err-moved-clause-winds
returns-in_err-moved-clause-winds c = λ is. early_then c.args.self.now c.end_at.new.self (BailsSome c.args.brick c.args.self.now) c.end_at.ensures.kept.promises c.end_at.ensures.kept.wiring (c.in_ok-won.won, c.in_ok-won.ensures.ends) (running c.run.new.self) (c.in_err-moved.ensures.winds (handed_on c.from_residual-in_err-moved.result c.in_err-moved.field-0.0 _ c.from_residual-in_err-moved.ensures.1 is))
