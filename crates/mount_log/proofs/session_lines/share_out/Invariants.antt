use Rattle.std.proofs.Common.{◌≡◌, length, map, take}
use Rattle.mount_log.specs.Lines.{SharesOut}
use Rattle.mount_log.proofs.session_lines.share_out.Given as goal

abbrev pub invariant-loop-index : goal.invariant-loop-index
invariant-loop-index l =
    (length l.lines.items ≡ length l.fn.lines.items)
    × SharesOut l.fn.phase (take l.index l.fn.calls) (map (λ q. q.items) l.fn.lines.items) (map (λ q. q.items) l.lines.items)
