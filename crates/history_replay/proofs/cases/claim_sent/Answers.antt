use Rattle.std.proofs.Common.{◌++◌, ap, ◌∙◌}
use Rattle.fop_types.specs.Calls.{looked_up}
use Rattle.flat_fs.specs.Walks.{objects}
use Rattle.history_replay.specs.code.Cases.{Case}
use Rattle.history_replay.specs.code.Claims.{walk_claims, walk_ends}
use Rattle.history_replay.proofs.Adding.{sent_adds}
use Rattle.history_replay.proofs.cases.claim_sent.Goals as goal

pub returns : goal.returns
returns c =
    sent_adds c.args.case.now c.args.fds.now c.in_ok-claim_found.field-0 c.args.claims.now c.claim_walk.new.claims c.claim_found.new.claims (objects c.in_ok-ends.ends)
    (c.in_ok-ends.ensures.claims ∙ ap (λ (k : Case). c.args.claims.now ++ walk_claims (looked_up k.call) k.places k.found) c.case.view_is)
    (c.in_ok-ends.ensures.ends ∙ ap (λ (k : Case). walk_ends (looked_up k.call) k.places k.found) c.case.view_is) c.in_ok-claim_found.ensures
