use Rattle.history_replay.proofs.Running.{bears_if}
use Rattle.history_replay.proofs.steps.hold.Goals as goal

pub returns-in_ok-ops-in-Some : goal.returns-in_ok-ops-in-Some
returns-in_ok-ops-in-Some c =
    bears_if c.args.replies.now c.in-Some.steps.items c.args.entries c.args.claims c.in_ok-ops-in-Some.ops (rw c.in-Some.is at c.in_ok-put_all.ensures) c.in_ok-ops-in-Some.ensures
