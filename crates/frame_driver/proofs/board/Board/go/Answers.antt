use Rattle.std.proofs.Common.{subst}
use Rattle.std.proofs.lemmas.Result.{IfOk-weaker}
use Rattle.frame_driver.specs.Machine.{IsCarried, IsCut}
use Rattle.frame_driver.proofs.Entering.{out_frame, out_leads, out_home, go_kept, go_home, go_own, go_there, go_waits, go_may}
use Rattle.frame_driver.proofs.Leading.{leads_then}
use Rattle.frame_driver.proofs.board.Board.go.Goals as goal

pub take_out-local-requires : goal.take_out-local-requires
take_out-local-requires g c = record { kept = go_kept _ c.args.wiring.now c.requires.fits c.args.self.now c.args.frame c.requires.sound }

pub go_on_at-requires-clause-at : goal.go_on_at-requires-clause-at
go_on_at-requires-clause-at g c = go_there _ c.args.wiring.now c.requires.fits c.args.self.now c.args.frame c.requires.sound _ _ c.take_out-local.ensures.stood

pub go_on_at-requires-clause-own : goal.go_on_at-requires-clause-own
go_on_at-requires-clause-own g c = go_own _ c.args.wiring.now c.requires.fits c.args.self.now c.args.frame c.requires.sound _ _ c.take_out-local.ensures.stood

pub go_on_at-requires-clause-waits : goal.go_on_at-requires-clause-waits
go_on_at-requires-clause-waits g c = go_waits _ c.args.wiring.now c.requires.fits c.args.self.now c.args.frame c.requires.sound _ _ c.take_out-local.ensures.stood

pub carry-requires-clause-home : goal.carry-requires-clause-home
carry-requires-clause-home g c = out_home _ c.args.wiring.now c.requires.fits c.args.self.now c.args.frame c.take_out-local.result.0 c.take_out-local.result.1 (go_home _ c.args.wiring.now c.requires.fits c.args.self.now c.args.frame c.requires.sound _ _ c.take_out-local.ensures.stood) c.take_out-local.ensures.stood _ c.take_out-local.ensures.out

pub carry-requires-clause-out : goal.carry-requires-clause-out
carry-requires-clause-out g c = out_frame _ c.args.wiring.now c.requires.fits c.args.self.now c.args.frame c.take_out-local.result.0 c.take_out-local.result.1 (go_home _ c.args.wiring.now c.requires.fits c.args.self.now c.args.frame c.requires.sound _ _ c.take_out-local.ensures.stood) c.take_out-local.ensures.stood _ c.take_out-local.ensures.out

pub carry-requires-clause-may : goal.carry-requires-clause-may
carry-requires-clause-may g c = go_may _ c.args.wiring.now c.requires.fits c.args.self.now c.args.frame c.requires.sound _ _ c.take_out-local.ensures.stood _ c.take_out-local.ensures.out c.in_ok-step.step c.in_ok-step.ensures.step

pub returns-clause-went : goal.returns-clause-went
returns-clause-went g c = IfOk-weaker c.carry.result _ _ (λ _ carried. record {
  place = c.take_out-local.result.0;
  local = c.take_out-local.result.1;
  home = go_home _ c.args.wiring.now c.requires.fits c.args.self.now c.args.frame c.requires.sound _ _ c.take_out-local.ensures.stood;
  stood = c.take_out-local.ensures.stood;
  waits = go_waits _ c.args.wiring.now c.requires.fits c.args.self.now c.args.frame c.requires.sound _ _ c.take_out-local.ensures.stood;
  step = c.in_ok-step.step;
  steps = record { lawful = c.in_ok-step.ensures.step; made = c.in_ok-step.ensures.made };
  carried = subst (λ b. IsCarried c.args.wiring.now c.args.frame c.take_out-local.result.0 b c.in_ok-step.step c.carry.new.self) c.take_out-local.ensures.out carried;
}) c.carry.ensures.carried

pub returns-in_err-step-clause-leads : goal.returns-in_err-step-clause-leads
returns-in_err-step-clause-leads g c = out_leads _ c.args.wiring.now c.requires.fits c.args.self.now c.args.frame c.take_out-local.result.0 c.take_out-local.result.1 (go_home _ c.args.wiring.now c.requires.fits c.args.self.now c.args.frame c.requires.sound _ _ c.take_out-local.ensures.stood) c.take_out-local.ensures.stood _ c.take_out-local.ensures.out

pub returns-clause-leads : goal.returns-clause-leads
returns-clause-leads g c = leads_then c.args.self.now _ c.carry.new.self (out_leads _ c.args.wiring.now c.requires.fits c.args.self.now c.args.frame c.take_out-local.result.0 c.take_out-local.result.1 (go_home _ c.args.wiring.now c.requires.fits c.args.self.now c.args.frame c.requires.sound _ _ c.take_out-local.ensures.stood) c.take_out-local.ensures.stood _ c.take_out-local.ensures.out) c.carry.ensures.leads

pub returns-clause-winds : goal.returns-clause-winds
returns-clause-winds g c = λ e. record {
  place = c.take_out-local.result.0;
  local = c.take_out-local.result.1;
  home = go_home _ c.args.wiring.now c.requires.fits c.args.self.now c.args.frame c.requires.sound _ _ c.take_out-local.ensures.stood;
  stood = c.take_out-local.ensures.stood;
  waits = go_waits _ c.args.wiring.now c.requires.fits c.args.self.now c.args.frame c.requires.sound _ _ c.take_out-local.ensures.stood;
  step = c.in_ok-step.step;
  steps = record { lawful = c.in_ok-step.ensures.step; made = c.in_ok-step.ensures.made };
  carried = subst (λ b. IsCut c.args.wiring.now c.args.frame c.take_out-local.result.0 b c.in_ok-step.step c.carry.new.self) c.take_out-local.ensures.out (c.carry.ensures.winds e);
}
