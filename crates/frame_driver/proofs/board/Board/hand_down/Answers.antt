use Rattle.std.proofs.Common.{refl, ap}
use Rattle.std.proofs.lemmas.Result.{IfOk-weaker}
use Rattle.frame_driver.proofs.Leading.{leads_still}
use Rattle.frame_driver.proofs.board.Board.hand_down.Goals as goal

pub returns-in-Node-clause-handed : goal.returns-in-Node-clause-handed
returns-in-Node-clause-handed g c = rw c.in-Node.is (IfOk-weaker c.push.result _ _ (λ _ is. ap (λ q. record c.args.self.now { queue = q }) is) c.push.ensures.ok)

pub returns-in-Node-clause-leads : goal.returns-in-Node-clause-leads
returns-in-Node-clause-leads g c = leads_still c.args.self.now _ refl refl

pub returns-in-Outside-clause-handed : goal.returns-in-Outside-clause-handed
returns-in-Outside-clause-handed g c = rw c.in-Outside.is (IfOk-weaker c.push-in-Outside.result _ _ (λ _ is. ap (λ q. record c.args.self.now { sent = q }) is) c.push-in-Outside.ensures.ok)

pub returns-in-Outside-clause-leads : goal.returns-in-Outside-clause-leads
returns-in-Outside-clause-leads g c = leads_still c.args.self.now _ refl refl
