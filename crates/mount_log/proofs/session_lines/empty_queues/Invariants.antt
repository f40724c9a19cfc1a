use Rattle.std.proofs.Common.{◌≡◌, ℕ, [], length, map}
use Rattle.mount_log.specs.Lines.{queue_of}
use Rattle.mount_log.proofs.session_lines.empty_queues.Given as goal

abbrev pub invariant-loop : goal.invariant-loop
invariant-loop l = (length l.lines.items ≡ l.counter) × ((session : ℕ) → queue_of (map (λ q. q.items) l.lines.items) session ≡ [])
