use Rattle.std.proofs.Common.{◌≡◌, drop}
use Rattle.brick_machine.specs.Locking.{left_waiting, grant_replies}
use Rattle.brick_machine.specs.code.Outs.{put_out}
use Rattle.brick_machine.proofs.waiters.Waiters.grant_each.Given as goal

abbrev pub invariant-loop-owner : goal.invariant-loop-owner
invariant-loop-owner l =
    (left_waiting l.self (drop l.owner-index l.owners) ≡ left_waiting l.fn.self l.owners)
    × (put_out l.outs (grant_replies l.store.cells l.self (drop l.owner-index l.owners)) ≡ put_out l.fn.outs (grant_replies l.store.cells l.fn.self l.owners))
