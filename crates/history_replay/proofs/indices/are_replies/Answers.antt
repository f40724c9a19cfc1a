use Rattle.std.proofs.Common.{ap, sym, subst}
use Rattle.fop_types.specs.History.{Reply}
use Rattle.history_replay.specs.Traces.{Trace}
use Rattle.history_replay.specs.code.Runs.{IsReplyFound}
use Rattle.history_replay.proofs.Indexing.{replies_next, replies_all}
use Rattle.history_replay.proofs.indices.are_replies.Goals as goal

pub loop-index-preserved : goal.loop-index-preserved
loop-index-preserved c =
    replies_next c.args.trace.now c.args.f.now c.trace.inside.replies.now (ap (λ (t : Trace). t.replies) c.trace.view_is) c.loop-index.index c.loop-index.invariant
    c.index-trace-index.result c.index-trace-index.is
    (subst (λ (r : Reply). IsReplyFound c.args.trace.now c.args.f.now c.loop-index.index r.call) (sym c.index-trace-index.is)
    (c.is_reply_found.ensures c.if-not-is_reply_found.false))

pub returns : goal.returns
returns c = λ _.
    replies_all c.args.trace.now c.args.f.now c.trace.inside.replies.now (ap (λ (t : Trace). t.replies) c.trace.view_is) c.loop-index.index c.loop-index.invariant
    c.loop-index-test.false
