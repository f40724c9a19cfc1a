use Rattle.std.proofs.Common.{refl, ◌∙◌, ◌+◌, ◌++◌, drop}
use Rattle.mount_log.specs.Phases.{internal_from}
use Rattle.mount_log.proofs.Lists.{grown_by}
use Rattle.run_audit.proofs.Pushing.{same_test}
use Rattle.run_audit.proofs.numbers.add_internal.Goals as goal

pub loop-k-preserved : goal.loop-k-preserved
loop-k-preserved c =
    let rest = internal_from (c.loop-k.k + 1 + 1) (drop (c.loop-k.k + 1) c.args.events.now) in
    grown_by (internal_from (c.loop-k.k + 1)) c.args.events.now c.args.events.now c.loop-k.k c.index-events-k.result c.loop-k.numbers c.push_if.new.numbers rest (c.args.numbers.now ++ internal_from 1 c.args.events.now)
    refl c.loop-k-test.true c.index-events-k.is (c.in_ok-push_if.ensures rest ∙ same_test c.loop-k.numbers rest _ _ _ c.begins_internal.ensures) c.loop-k.invariant
