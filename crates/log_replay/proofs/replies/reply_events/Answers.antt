use Rattle.log_replay.proofs.Replying.{replied_more}
use Rattle.log_replay.proofs.replies.reply_events.Goals as goal

pub loop-back-preserved : goal.loop-back-preserved
loop-back-preserved c =
    rw c.put_event.ensures
    (replied_more c.args.count c.args.lines.now c.loop-back.back c.index-lines-lines.result c.loop-back.events.items c.loop-back-test.true c.index-lines-lines.is c.loop-back.invariant)
