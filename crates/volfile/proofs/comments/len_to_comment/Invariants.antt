use Rattle.std.proofs.Common.{◌≡◌, ◌≤◌, ◌+◌, ◌-◌, length, drop, false}
use Rattle.volfile.specs.VolfileText.{before_comment}
use Rattle.volfile.proofs.comments.len_to_comment.Given as goal

abbrev pub invariant-loop-at : goal.invariant-loop-at
invariant-loop-at l = (l.at ≤ length l.line) × (l.at + length (before_comment l.inside (drop l.at l.line)) ≡ length (before_comment false l.line))

abbrev pub decreases-loop-at : goal.decreases-loop-at
decreases-loop-at l = length l.line - l.at
