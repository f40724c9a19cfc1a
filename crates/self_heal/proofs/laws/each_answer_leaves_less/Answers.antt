use Rattle.self_heal.proofs.Lasting.{each_answer_leaves_less}
use Rattle.self_heal.proofs.laws.each_answer_leaves_less.Goals as goal

pub returns : goal.returns
returns c = each_answer_leaves_less
