use Rattle.std.proofs.Common.{◌≡◌, ◌&&◌, drop}
use Rattle.std.specs.List.{list_any}
use Rattle.mount_locks.specs.Rule.{request_of}
use Rattle.mount_locks.specs.Walks.{bars, is_on, is_kept}
use Rattle.mount_locks.proofs.walk.is_kept.Given as goal

abbrev pub invariant-loop-gfid : goal.invariant-loop-gfid
invariant-loop-gfid l = list_any (λ g. list_any (λ e. is_on g l.shared e.1 && bars l.shared l.call l.number e.0 e.1) l.queue) (drop l.gfid-index l.gfids) ≡ is_kept l.queue l.number (request_of l.call l.gfids l.shared)
