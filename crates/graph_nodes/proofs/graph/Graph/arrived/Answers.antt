use Rattle.frame_driver.proofs.Looping.{handed_on}
use Rattle.graph_nodes.proofs.Living.{work_then, keeps_then, settles_then}
use Rattle.graph_nodes.specs.Calls.{running, TakesOutput, TakesSome}
use Rattle.graph_nodes.proofs.Giving.{gives_then, early_then}
use Rattle.graph_nodes.proofs.graph.Graph.arrived.Goals as goal

pub run-requires : goal.run-requires
run-requires c = record { work = work_then c.args.self.now _ c.args.parked.now.keys c.requires.work c.in_ok-settled.ensures.works }

pub returns-clause-kept : goal.returns-clause-kept
returns-clause-kept c = keeps_then c.args.self.now c.take_output.new.self _ c.take_output.ensures.kept c.run.ensures.kept

pub returns-clause-well : goal.returns-clause-well
returns-clause-well c = settles_then c.args.self.now c.take_output.new.self _ c.args.parked.now.keys _ c.in_ok-settled.ensures.works c.in_ok-moved.ensures.well

pub returns-in_err-moved-clause-kept : goal.returns-in_err-moved-clause-kept
returns-in_err-moved-clause-kept c = keeps_then c.args.self.now c.take_output.new.self _ c.take_output.ensures.kept c.run.ensures.kept

pub returns-clause-gives : goal.returns-clause-gives
returns-clause-gives c = gives_then c.args.self.now c.take_output.new.self (TakesOutput c.args.w c.args.rep c.args.taken c.in_ok-settled.settled c.args.self.now) c.take_output.ensures.kept.promises c.take_output.ensures.kept.wiring c.in_ok-settled.ensures.takes (running c.run.new.self) c.in_ok-moved.moved c.in_ok-moved.ensures.gives

pub returns-in_err-moved-clause-winds : goal.returns-in_err-moved-clause-winds
returns-in_err-moved-clause-winds c = λ is. early_then c.args.self.now c.take_output.new.self (TakesSome c.args.w c.args.rep c.args.taken c.args.self.now) c.take_output.ensures.kept.promises c.take_output.ensures.kept.wiring (c.in_ok-settled.settled, c.in_ok-settled.ensures.takes) (running c.run.new.self) (c.in_err-moved.ensures.winds (handed_on c.from_residual-in_err-moved.result c.in_err-moved.field-0.0 _ c.from_residual-in_err-moved.ensures.1 is))
