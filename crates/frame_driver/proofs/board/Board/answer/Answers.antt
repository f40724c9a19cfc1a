use Rattle.std.proofs.Common.{refl, ap}
use Rattle.std.proofs.lemmas.Result.{IfOk-weaker}
use Rattle.frame_driver.proofs.Leading.{leads_still}
use Rattle.frame_driver.proofs.board.Board.answer.Goals as goal

pub returns-in-None-clause-answered : goal.returns-in-None-clause-answered
returns-in-None-clause-answered g c = rw c.in-None.is (IfOk-weaker c.push.result _ _ (λ _ is. ap (λ q. record c.args.self.now { answers = q }) is) c.push.ensures.ok)

pub returns-in-None-clause-leads : goal.returns-in-None-clause-leads
returns-in-None-clause-leads g c = leads_still c.args.self.now _ refl refl
