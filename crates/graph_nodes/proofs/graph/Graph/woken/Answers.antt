use Rattle.std.proofs.lemmas.Result.{on_ok_weaker}
use Rattle.graph_nodes.proofs.Living.{work_by, keeps_then, settles_by}
use Rattle.graph_nodes.specs.Calls.{running, Wakes, Here, Gives}
use Rattle.graph_nodes.proofs.Giving.{gives_then, early_then, if_ok_weaker}
use Rattle.graph_nodes.proofs.graph.Graph.woken.Goals as goal

pub run-requires : goal.run-requires
run-requires c = record { work = work_by c.args.self.now c.wake_parked.new.self c.args.parked.now.keys c.wake_parked.new.parked.keys c.requires.work c.in_ok-wake_parked.ensures.works }

pub returns-clause-kept : goal.returns-clause-kept
returns-clause-kept c = keeps_then c.args.self.now c.wake_parked.new.self _ c.wake_parked.ensures.kept c.run.ensures.kept

pub returns-clause-well : goal.returns-clause-well
returns-clause-well c = on_ok_weaker c.run.result (λ settled. settles_by c.args.self.now c.wake_parked.new.self _ c.args.parked.now.keys c.wake_parked.new.parked.keys _ c.in_ok-wake_parked.ensures.works settled) c.run.ensures.well

pub returns-clause-gives : goal.returns-clause-gives
returns-clause-gives c = if_ok_weaker (λ moved. Gives (Here c.wake_parked.new.self) c.wake_parked.new.self moved (running c.run.new.self)) (λ moved. Gives (Wakes c.args.parked.now.keys c.args.frame c.args.self.now) c.args.self.now moved (running c.run.new.self)) c.run.result
    (λ moved gives. gives_then c.args.self.now c.wake_parked.new.self (Wakes c.args.parked.now.keys c.args.frame c.args.self.now) c.wake_parked.ensures.kept.promises c.wake_parked.ensures.kept.wiring c.in_ok-wake_parked.ensures.wakes (running c.run.new.self) moved gives) c.run.ensures.gives

pub returns-clause-winds : goal.returns-clause-winds
returns-clause-winds c = λ is. early_then c.args.self.now c.wake_parked.new.self (Wakes c.args.parked.now.keys c.args.frame c.args.self.now) c.wake_parked.ensures.kept.promises c.wake_parked.ensures.kept.wiring c.in_ok-wake_parked.ensures.wakes (running c.run.new.self) (c.run.ensures.winds is)
