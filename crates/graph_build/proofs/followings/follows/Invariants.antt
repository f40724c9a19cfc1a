use Rattle.std.proofs.Common.{◌≡◌, ◌≤◌, ◌-◌, length, drop}
use Rattle.graph_build.specs.Follows.{sets_follow}
use Rattle.graph_build.proofs.followings.follows.Given as goal

abbrev pub invariant-loop-at : goal.invariant-loop-at
invariant-loop-at l = (l.at ≤ length l.before) × (l.at ≤ length l.after) × (sets_follow l.before (drop l.at l.before) (drop l.at l.after) ≡ sets_follow l.before l.before l.after)

abbrev pub decreases-loop-at : goal.decreases-loop-at
decreases-loop-at l = length l.before - l.at
