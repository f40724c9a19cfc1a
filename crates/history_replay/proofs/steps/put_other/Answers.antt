use Rattle.std.proofs.Common.{subst, sym}
use Rattle.history_replay.specs.code.Runs.{Puts}
use Rattle.history_replay.proofs.Running.{puts_entry}
use Rattle.history_replay.proofs.steps.put_other.Goals as goal

pub returns-in-Enters-clause-puts : goal.returns-in-Enters-clause-puts
returns-in-Enters-clause-puts c = λ did.
    subst (Puts c.args.replies.now c.args.steps.now.items c.put_change.new.steps.items) (sym c.in-Enters.is)
    (puts_entry c.args.replies.now c.args.steps.now.items c.put_change.new.steps.items c.in-Enters.index c.in-Enters.op c.in-Enters.reply
    (c.put_change.ensures.puts did))
