use Rattle.frame_trees.proofs.Staying.{ended_tree}
use Rattle.frame_trees.proofs.tree.reply_ours.Goals as goal

pub returns-then-ours : goal.returns-then-ours
returns-then-ours c = λ nodes wiring is. ended_tree nodes wiring c.args.board.now c.reply.new.self is c.in_ok-reply.ensures.leads.same c.in_ok-reply.ensures.sound c.in_ok-reply.ensures.held
