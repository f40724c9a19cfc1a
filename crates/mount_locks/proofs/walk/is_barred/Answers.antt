use Rattle.std.proofs.Common.{arith}
use Rattle.mount_locks.proofs.Rests.{bars_start}
use Rattle.mount_locks.proofs.Passed.{late_none}
use Rattle.mount_locks.proofs.walk.is_barred.Goals as goal

pub loop-other-init : goal.loop-other-init
loop-other-init c = bars_start c.args.key c.args.shared c.args.call c.args.number c.args.queue.now c.numbers_rise.ensures

pub returns-then-number-other : goal.returns-then-number-other
returns-then-number-other c = late_none c.args.key c.args.shared c.args.call c.args.number c.in-Some.other c.loop-other.from c.args.queue.now _ c.if-shared.true (omega arith) c.in-Some.ensures.found c.loop-other.invariant
