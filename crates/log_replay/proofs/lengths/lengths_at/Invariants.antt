use Rattle.std.proofs.Common.{◌≡◌, ◌+◌, map, take}
use Rattle.mount_log.specs.Submissions.{count_below}
use Rattle.log_replay.proofs.lengths.lengths_at.Given as goal

abbrev pub invariant-loop-event : goal.invariant-loop-event
invariant-loop-event l = l.lengths.items ≡ map (λ n. count_below (n + l.more) l.entered) (take l.event-index l.events)
