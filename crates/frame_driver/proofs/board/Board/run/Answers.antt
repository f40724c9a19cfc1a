use Rattle.std.proofs.Common.{refl, sym, ◌∙◌}
use Rattle.std.specs.Prelude.{map}
use Rattle.frame_driver.proofs.Doing.{running_first, running_next, running_less, running_fine, running_fits, running_cut, running_leads}
use Rattle.frame_driver.proofs.Looping.{handed_on}
use Rattle.frame_driver.proofs.Resting.{running_last}
use Rattle.frame_driver.proofs.board.Board.run.Goals as goal

pub loop-task-init : goal.loop-task-init
loop-task-init g c = running_first g.X.Xlator.promise g.X.Xlator.makes (map g.X.Xlator.promise c.args.nodes.now.items) c.args.wiring.now (record { nodes = c.args.nodes.now.items; cx = c.args.cx.now; board = c.args.self.now }) refl c.requires.sound

pub loop-task-preserved : goal.loop-task-preserved
loop-task-preserved g c = running_next _ _ _ _ c.args.wiring.now c.requires.fits _ (record { nodes = c.loop-task.nodes.items; cx = c.loop-task.cx; board = c.loop-task.self }) (record { nodes = c.run_task.new.nodes.items; cx = c.run_task.new.cx; board = c.run_task.new.self }) c.in-Some.task c.pop.new.self c.loop-task.invariant c.in-Some.ensures c.in_ok-run_task.ensures.done (map g.X.Xlator.promise c.run_task.new.nodes.items) c.in_ok-run_task.ensures.same refl c.in_ok-run_task.ensures.leads

pub loop-task-smaller : goal.loop-task-smaller
loop-task-smaller g c = running_less _ _ _ _ c.args.wiring.now c.requires.fits _ (record { nodes = c.loop-task.nodes.items; cx = c.loop-task.cx; board = c.loop-task.self }) (record { nodes = c.run_task.new.nodes.items; cx = c.run_task.new.cx; board = c.run_task.new.self }) c.in-Some.task c.pop.new.self c.loop-task.invariant c.in-Some.ensures c.in_ok-run_task.ensures.done

pub run_task-requires-clause-fits : goal.run_task-requires-clause-fits
run_task-requires-clause-fits g c = running_fits _ _ _ _ c.args.wiring.now c.requires.fits _ _ (record { nodes = c.loop-task.nodes.items; cx = c.loop-task.cx; board = c.loop-task.self }) c.in-Some.task c.pop.new.self c.loop-task.invariant c.in-Some.ensures

pub run_task-requires-clause-sound : goal.run_task-requires-clause-sound
run_task-requires-clause-sound g c = running_fine _ _ _ _ c.args.wiring.now c.requires.fits _ _ (record { nodes = c.loop-task.nodes.items; cx = c.loop-task.cx; board = c.loop-task.self }) c.in-Some.task c.pop.new.self c.loop-task.invariant c.in-Some.ensures

pub returns-clause-sound : goal.returns-clause-sound
returns-clause-sound g c = λ ps ours s. (running_last g.X.Xlator.promise g.X.Xlator.makes (map g.X.Xlator.promise c.args.nodes.now.items) (map g.X.Xlator.promise c.loop-task.nodes.items) c.args.wiring.now (record { nodes = c.args.nodes.now.items; cx = c.args.cx.now; board = c.args.self.now }) (record { nodes = c.loop-task.nodes.items; cx = c.loop-task.cx; board = c.loop-task.self }) c.pop.new.self c.loop-task.invariant (c.in_default.ensures.0 ∙ sym c.in_default.ensures.1)).sound ps ours s

pub returns-clause-nests : goal.returns-clause-nests
returns-clause-nests g c = λ ps ours s n. (running_last g.X.Xlator.promise g.X.Xlator.makes (map g.X.Xlator.promise c.args.nodes.now.items) (map g.X.Xlator.promise c.loop-task.nodes.items) c.args.wiring.now (record { nodes = c.args.nodes.now.items; cx = c.args.cx.now; board = c.args.self.now }) (record { nodes = c.loop-task.nodes.items; cx = c.loop-task.cx; board = c.loop-task.self }) c.pop.new.self c.loop-task.invariant (c.in_default.ensures.0 ∙ sym c.in_default.ensures.1)).nests ps ours s n

pub returns-clause-held : goal.returns-clause-held
returns-clause-held g c = λ ps outer ours s h. (running_last g.X.Xlator.promise g.X.Xlator.makes (map g.X.Xlator.promise c.args.nodes.now.items) (map g.X.Xlator.promise c.loop-task.nodes.items) c.args.wiring.now (record { nodes = c.args.nodes.now.items; cx = c.args.cx.now; board = c.args.self.now }) (record { nodes = c.loop-task.nodes.items; cx = c.loop-task.cx; board = c.loop-task.self }) c.pop.new.self c.loop-task.invariant (c.in_default.ensures.0 ∙ sym c.in_default.ensures.1)).held ps outer ours s h

pub returns-clause-work : goal.returns-clause-work
returns-clause-work g c = λ ps ours s. (running_last g.X.Xlator.promise g.X.Xlator.makes (map g.X.Xlator.promise c.args.nodes.now.items) (map g.X.Xlator.promise c.loop-task.nodes.items) c.args.wiring.now (record { nodes = c.args.nodes.now.items; cx = c.args.cx.now; board = c.args.self.now }) (record { nodes = c.loop-task.nodes.items; cx = c.loop-task.cx; board = c.loop-task.self }) c.pop.new.self c.loop-task.invariant (c.in_default.ensures.0 ∙ sym c.in_default.ensures.1)).less ps ours s

pub returns-clause-paid : goal.returns-clause-paid
returns-clause-paid g c = λ ps call ours s. (running_last g.X.Xlator.promise g.X.Xlator.makes (map g.X.Xlator.promise c.args.nodes.now.items) (map g.X.Xlator.promise c.loop-task.nodes.items) c.args.wiring.now (record { nodes = c.args.nodes.now.items; cx = c.args.cx.now; board = c.args.self.now }) (record { nodes = c.loop-task.nodes.items; cx = c.loop-task.cx; board = c.loop-task.self }) c.pop.new.self c.loop-task.invariant (c.in_default.ensures.0 ∙ sym c.in_default.ensures.1)).paid ps call ours s

pub returns-clause-rooted : goal.returns-clause-rooted
returns-clause-rooted g c = λ root all. (running_last g.X.Xlator.promise g.X.Xlator.makes (map g.X.Xlator.promise c.args.nodes.now.items) (map g.X.Xlator.promise c.loop-task.nodes.items) c.args.wiring.now (record { nodes = c.args.nodes.now.items; cx = c.args.cx.now; board = c.args.self.now }) (record { nodes = c.loop-task.nodes.items; cx = c.loop-task.cx; board = c.loop-task.self }) c.pop.new.self c.loop-task.invariant (c.in_default.ensures.0 ∙ sym c.in_default.ensures.1)).rooted root all

pub returns-in_err-run_task-clause-winds : goal.returns-in_err-run_task-clause-winds
returns-in_err-run_task-clause-winds g c = λ e. running_cut _ _ _ _ c.args.wiring.now c.requires.fits (record { nodes = c.args.nodes.now.items; cx = c.args.cx.now; board = c.args.self.now }) (record { nodes = c.loop-task.nodes.items; cx = c.loop-task.cx; board = c.loop-task.self }) (record { nodes = c.run_task.new.nodes.items; cx = c.run_task.new.cx; board = c.run_task.new.self }) c.in-Some.task c.pop.new.self c.loop-task.invariant c.in-Some.ensures (c.in_err-run_task.ensures.winds (handed_on c.from_residual.result c.in_err-run_task.field-0.0 _ c.from_residual.ensures.1 e))

pub returns-in_err-run_task-clause-leads : goal.returns-in_err-run_task-clause-leads
returns-in_err-run_task-clause-leads g c = running_leads _ _ _ _ c.args.wiring.now c.requires.fits (record { nodes = c.args.nodes.now.items; cx = c.args.cx.now; board = c.args.self.now }) (record { nodes = c.loop-task.nodes.items; cx = c.loop-task.cx; board = c.loop-task.self }) (record { nodes = c.run_task.new.nodes.items; cx = c.run_task.new.cx; board = c.run_task.new.self }) c.in-Some.task c.pop.new.self c.loop-task.invariant c.in-Some.ensures c.in_err-run_task.ensures.leads
