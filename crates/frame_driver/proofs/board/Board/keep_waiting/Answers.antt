use Rattle.std.proofs.Common.{ap, ◌∙◌}
use Rattle.std.proofs.lemmas.Result.{IfOk-weaker}
use Rattle.std.specs.Prelude.{Some}
use Rattle.frame_stack.specs.Stack.{with_local}
use Rattle.frame_driver.proofs.Keeping.{out_none}
use Rattle.frame_driver.proofs.Opening.{waited_leads}
use Rattle.frame_driver.proofs.board.Board.keep_waiting.Goals as goal

pub put-requires : goal.put-requires
put-requires g c = out_none c.args.self.now.stack c.args.frame c.args.place c.requires.out

pub returns-clause-kept : goal.returns-clause-kept
returns-clause-kept g c = IfOk-weaker c.push.result _ _ (λ _ is.
    ap (λ s. record c.args.self.now { stack = s; waiting = c.push.new.self }) c.put.ensures.after
    ∙ ap (λ q. record c.args.self.now { stack = with_local c.args.self.now.stack c.args.frame (Some c.args.local); waiting = q }) is) c.push.ensures.ok

pub returns-clause-leads : goal.returns-clause-leads
returns-clause-leads g c = waited_leads c.args.self.now c.args.frame c.args.place c.requires.home c.requires.out c.args.local c.put.new.self c.push.new.self c.put.ensures.after
