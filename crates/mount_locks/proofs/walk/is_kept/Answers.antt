use Rattle.mount_locks.proofs.Touches.{any_keeps}
use Rattle.mount_locks.proofs.walk.is_kept.Goals as goal

pub loop-gfid-init : goal.loop-gfid-init
loop-gfid-init c = any_keeps c.args.call c.args.gfids.now c.args.shared c.args.number c.args.queue.now
