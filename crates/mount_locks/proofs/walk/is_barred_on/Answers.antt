use Rattle.std.proofs.Common.{sym, ◌∙◌}
use Rattle.mount_locks.proofs.Touches.{barred_exclusive, barred_none, barred_shared}
use Rattle.mount_locks.proofs.walk.is_barred_on.Goals as goal

pub returns-then-is_barred : goal.returns-then-is_barred
returns-then-is_barred c = barred_exclusive c.args.gfid c.args.shared c.args.call c.args.number _ c.args.queue.now c.gfid_key.ensures (sym c.if-is_barred.true ∙ c.is_barred.ensures)

pub returns-then-shared : goal.returns-then-shared
returns-then-shared c = barred_none c.args.gfid c.args.shared c.args.call c.args.number _ c.args.queue.now c.gfid_key.ensures (sym c.if-is_barred.false ∙ c.is_barred.ensures) c.if-shared.true

pub returns : goal.returns
returns c = barred_shared c.args.gfid c.args.shared c.args.call c.args.number _ _ _ c.args.queue.now c.gfid_key.ensures c.gfid_key-2.ensures (sym c.if-is_barred.false ∙ c.is_barred.ensures) c.if-shared.false c.is_barred-2.ensures
