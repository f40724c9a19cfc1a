use Rattle.std.proofs.Common.{◌≡◌, replicate}
use Rattle.log_replay.proofs.replies.no_events.Given as goal

abbrev pub invariant-loop : goal.invariant-loop
invariant-loop l = l.events.items ≡ replicate l.counter 0
