use Rattle.std.proofs.Common.{sym}
use Rattle.std.proofs.lemmas.Result.{IfOk-weaker}
use Rattle.frame_driver.proofs.Entering.{enter_parent, enter_few, enter_at, enter_out, enter_may}
use Rattle.frame_driver.proofs.Leading.{leads_then}
use Rattle.frame_driver.proofs.board.Board.enter.Goals as goal

pub begin-requires-clause-parent : goal.begin-requires-clause-parent
begin-requires-clause-parent g c = enter_parent _ c.args.wiring.now c.requires.fits c.args.self.now c.args.node c.args.call c.args.parent c.args.fop c.requires.sound c.requires.live

pub begin-requires-clause-few : goal.begin-requires-clause-few
begin-requires-clause-few g c = enter_few _ c.args.wiring.now c.requires.fits c.args.self.now c.args.node c.args.call c.args.parent c.args.fop c.requires.sound c.requires.live

pub enter_at-requires : goal.enter_at-requires
enter_at-requires g c = record { at = enter_at _ c.args.wiring.now c.requires.fits c.args.self.now c.args.node c.args.call c.args.parent c.args.fop c.requires.sound c.requires.live }

pub carry-requires-clause-out : goal.carry-requires-clause-out
carry-requires-clause-out g c = enter_out _ c.args.wiring.now c.requires.fits c.args.self.now c.args.node c.args.call c.args.parent c.args.fop c.requires.sound c.requires.live _ _ c.in_ok-frame.ensures.opened c.begin.ensures.leads

pub carry-requires-clause-may : goal.carry-requires-clause-may
carry-requires-clause-may g c = enter_may _ c.args.wiring.now c.requires.fits c.args.self.now c.args.node c.args.call c.args.parent c.args.fop c.requires.sound c.requires.live _ _ c.in_ok-frame.ensures.opened c.begin.ensures.leads c.in_ok-step.step c.in_ok-step.ensures.step

pub returns-clause-entered : goal.returns-clause-entered
returns-clause-entered g c = IfOk-weaker c.carry.result _ _ (λ _ carried. record {
  key = c.in_ok-frame.frame;
  mid = c.begin.new.self;
  opened = c.in_ok-frame.ensures.opened;
  step = c.in_ok-step.step;
  steps = record { lawful = c.in_ok-step.ensures.step; made = c.in_ok-step.ensures.made };
  carried = carried;
}) c.carry.ensures.carried

pub carry-requires-clause-home : goal.carry-requires-clause-home
carry-requires-clause-home g c = sym c.begin.ensures.leads.same

pub returns-clause-leads : goal.returns-clause-leads
returns-clause-leads g c = leads_then c.args.self.now c.begin.new.self c.carry.new.self c.begin.ensures.leads c.carry.ensures.leads

pub returns-clause-winds : goal.returns-clause-winds
returns-clause-winds g c = λ e. record {
  key = c.in_ok-frame.frame;
  mid = c.begin.new.self;
  opened = c.in_ok-frame.ensures.opened;
  step = c.in_ok-step.step;
  steps = record { lawful = c.in_ok-step.ensures.step; made = c.in_ok-step.ensures.made };
  carried = c.carry.ensures.winds e;
}
