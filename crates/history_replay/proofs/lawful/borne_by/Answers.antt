use Rattle.std.proofs.Common.{ap, length}
use Rattle.history_replay.specs.Traces.{Trace}
use Rattle.history_replay.proofs.Traces.{lawful_if}
use Rattle.history_replay.proofs.lawful.borne_by.Goals as goal

pub returns-in_ok-ops-in-Some : goal.returns-in_ok-ops-in-Some
returns-in_ok-ops-in-Some c =
    lawful_if c.args.trace.now c.args.f.now c.args.count c.in-Some.claims c.trace.inside.replies.now (length c.trace.inside.history.now) c.in_ok-ops-in-Some.ops
    (ap (λ (t : Trace). t.replies) c.trace.view_is) (ap (λ (t : Trace). length t.history) c.trace.view_is) (c.are_indexed.ensures c.if-not-are_indexed.false)
    (rw c.in-Some.is at c.in_ok-claims_of.ensures) c.in_ok-ops-in-Some.ensures
