use Rattle.std.proofs.Common.{refl, ap}
use Rattle.frame_driver.proofs.Ending.{ended_won}
use Rattle.frame_driver.proofs.board.Board.end_wind.Goals as goal

pub returns-in_ok-push-in-Won-clause-ended : goal.returns-in_ok-push-in-Won-clause-ended
returns-in_ok-push-in-Won-clause-ended g c =
    let r = rw c.in-Some.is at c.in_ok-parent-in-Won.ensures.resumed in
    let a = rw c.in-Some.is at c.in_ok-parent-in-Won.ensures.awaits in
    let t = rw c.in-Some.is at c.in_ok-parent-in-Won.ensures.taken in
    let o = rw c.in-Some.is at c.in_ok-parent-in-Won.ensures.openers in
    ended_won c.args.self.now _ c.args.wind c.args.reply c.in-Some.parent c.settle.new.self c.resume.new.self c.in-Won.ensures.settled c.in-Won.ensures.after r c.in_ok-parent-in-Won.ensures.after (ap (λ q. record c.args.self.now { stack = c.resume.new.self; queue = q }) c.in_ok-push-in-Won.ensures.ok) a (t refl) c.in-Won.ensures.openers (o refl)
