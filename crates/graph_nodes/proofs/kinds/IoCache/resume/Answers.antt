use Rattle.std.proofs.Common.{refl}
use Rattle.std.proofs.lemmas.Result.{IfOk-weaker}
use Rattle.graph_nodes.proofs.PageTurns.{answered_pages, answered_other}
use Rattle.graph_nodes.proofs.kinds.IoCache.resume.Goals as goal

pub returns-in-Some : goal.returns-in-Some
returns-in-Some c = IfOk-weaker c.take_pages.result _ _ (λ step come. answered_pages c.args.self.now c.take_pages.new.self c.args.local c.in-Some.range c.args.reply step c.in-Some.ensures.is come) c.take_pages.ensures

pub returns-in-None : goal.returns-in-None
returns-in-None c = answered_other c.args.self.now _ c.args.local c.args.reply _ c.in-None.ensures.is (refl, refl)
