use Rattle.std.specs.Prelude.{ℕ, ◌<◌, ◌≤◌}
use Rattle.mount_log.specs.Controls.{IsFollowing}
use Rattle.run_audit.specs.Noted.{course_of}
use Rattle.run_audit.proofs.moments.are_following.Given as goal

abbrev pub invariant-loop-m : goal.invariant-loop-m
invariant-loop-m l = (l.since ≤ l.m) × ((j : ℕ) → j < l.m → l.since < j → IsFollowing l.script (course_of l.notes l.last) l.phase j)
