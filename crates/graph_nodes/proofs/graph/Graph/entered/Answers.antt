use Rattle.std.proofs.lemmas.Result.{on_ok_weaker}
use Rattle.graph_nodes.proofs.Living.{work_then, keeps_then, settles_then}
use Rattle.graph_nodes.specs.Calls.{running, Enters, Here, Gives}
use Rattle.graph_nodes.proofs.Giving.{gives_then, early_then, if_ok_weaker}
use Rattle.graph_nodes.proofs.graph.Graph.entered.Goals as goal

pub run-requires : goal.run-requires
run-requires c = record { work = work_then c.args.self.now _ c.args.parked.now.keys c.requires.work c.in_ok-put.ensures.works }

pub returns-clause-kept : goal.returns-clause-kept
returns-clause-kept c = keeps_then c.args.self.now c.put.new.self _ c.put.ensures.kept c.run.ensures.kept

pub returns-clause-well : goal.returns-clause-well
returns-clause-well c = on_ok_weaker c.run.result (λ settled. settles_then c.args.self.now c.put.new.self _ c.args.parked.now.keys _ c.in_ok-put.ensures.works settled) c.run.ensures.well

pub returns-clause-gives : goal.returns-clause-gives
returns-clause-gives c = if_ok_weaker (λ moved. Gives (Here c.put.new.self) c.put.new.self moved (running c.run.new.self)) (λ moved. Gives (Enters c.args.call c.args.fop c.args.self.now) c.args.self.now moved (running c.run.new.self)) c.run.result
    (λ moved gives. gives_then c.args.self.now c.put.new.self (Enters c.args.call c.args.fop c.args.self.now) c.put.ensures.kept.promises c.put.ensures.kept.wiring c.in_ok-put.ensures.enters (running c.run.new.self) moved gives) c.run.ensures.gives

pub returns-clause-winds : goal.returns-clause-winds
returns-clause-winds c = λ is. early_then c.args.self.now c.put.new.self (Enters c.args.call c.args.fop c.args.self.now) c.put.ensures.kept.promises c.put.ensures.kept.wiring c.in_ok-put.ensures.enters (running c.run.new.self) (c.run.ensures.winds is)
