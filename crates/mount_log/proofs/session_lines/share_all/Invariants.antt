use Rattle.std.proofs.Common.{◌≡◌, ℕ, ◌++◌, length, map, take}
use Rattle.mount_log.specs.Lines.{queue_of, places_from}
use Rattle.mount_log.proofs.session_lines.share_all.Given as goal

abbrev pub invariant-loop-phase : goal.invariant-loop-phase
invariant-loop-phase l =
    (length l.lines.items ≡ length l.fn.lines.items)
    × ((session : ℕ) → queue_of (map (λ q. q.items) l.lines.items) session ≡ queue_of (map (λ q. q.items) l.fn.lines.items) session ++ places_from session 0 (take l.phase l.fn.phases))
