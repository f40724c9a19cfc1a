use Rattle.history_replay.proofs.Running.{put_next}
use Rattle.history_replay.proofs.steps.put_all.Goals as goal

pub loop-claim-preserved : goal.loop-claim-preserved
loop-claim-preserved c =
    put_next c.args.replies.now c.args.entries c.loop-claim.steps.items c.put.new.steps.items c.loop-claim.yielded c.in-Some.claim c.loop-claim.invariant
    (c.in_ok-put.ensures.puts c.if-not-branch.false) c.in_ok-put.ensures.count
