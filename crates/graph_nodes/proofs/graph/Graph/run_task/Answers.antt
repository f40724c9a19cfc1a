use Rattle.std.proofs.Common.{refl}
use Rattle.frame_driver.proofs.Looping.{handed_on}
use Rattle.graph_nodes.proofs.Living.{turned_live, turned_has, stays_then, keeps_from, keeps_all}
use Rattle.graph_nodes.proofs.Giving.{task_gives, task_early}
use Rattle.graph_nodes.proofs.graph.Graph.run_task.Goals as goal

pub resumed-requires : goal.resumed-requires
resumed-requires c = record { live = turned_has c.args.self.now _ c.args.mount.now (turned_live c.args.self.now _ c.args.mount.now refl refl refl c.take_turn.ensures.promises) c.requires.live }

pub returns-clause-kept : goal.returns-clause-kept
returns-clause-kept c = keeps_from c.args.self.now _ c.resumed.new.self c.args.mount.now c.resumed.new.mount refl c.resumed.ensures.kept

pub returns-clause-live : goal.returns-clause-live
returns-clause-live c = stays_then c.args.self.now _ c.resumed.new.self c.args.mount.now c.args.mount.now c.resumed.new.mount (turned_live c.args.self.now _ c.args.mount.now refl refl refl c.take_turn.ensures.promises) c.in_ok-moved.ensures.live

pub returns-in_err-moved-clause-kept : goal.returns-in_err-moved-clause-kept
returns-in_err-moved-clause-kept c = keeps_from c.args.self.now _ c.resumed.new.self c.args.mount.now c.resumed.new.mount refl c.resumed.ensures.kept

pub returns-in_default-clause-kept : goal.returns-in_default-clause-kept
returns-in_default-clause-kept c = keeps_all c.args.self.now _ c.args.mount.now refl

pub returns-in_default-clause-live : goal.returns-in_default-clause-live
returns-in_default-clause-live c = turned_live c.args.self.now _ c.args.mount.now refl refl refl c.take_turn.ensures.promises

pub returns-clause-gives : goal.returns-clause-gives
returns-clause-gives c = task_gives c.args.self.now _ c.args.mount.now c.resumed.new.self c.resumed.new.mount c.args.task c.in-Some.frame refl refl c.take_turn.ensures.promises c.in-Some.ensures.turn c.in_ok-moved.moved c.in_ok-moved.ensures.gives

pub returns-in_err-moved-clause-winds : goal.returns-in_err-moved-clause-winds
returns-in_err-moved-clause-winds c = λ is. task_early c.args.self.now _ c.args.mount.now c.resumed.new.self c.resumed.new.mount c.args.task c.in-Some.frame refl refl c.take_turn.ensures.promises c.in-Some.ensures.turn (c.in_err-moved.ensures.winds (handed_on c.from_residual.result c.in_err-moved.field-0.0 _ c.from_residual.ensures.1 is))
