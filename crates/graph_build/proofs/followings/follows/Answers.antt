use Rattle.std.proofs.Common.{ap, ◌∙◌}
use Rattle.graph_build.specs.Follows.{sets_follow}
use Rattle.graph_build.proofs.FollowLemmas.{too_short}
use Rattle.graph_build.proofs.followings.follows.Goals as goal

pub returns-then-at-after : goal.returns-then-at-after
returns-then-at-after c =
    let before = c.as_slice-before.result.now in
    let after = c.as_slice-after.result.now in
    too_short before before after c.loop-at.at _ c.loop-at-test.true c.if-at-after.true c.loop-at.invariant.2
    ∙ ap (λ l. sets_follow l l after) c.as_slice-before.ensures ∙ ap (sets_follow c.args.old.now.sets c.args.old.now.sets) c.as_slice-after.ensures
