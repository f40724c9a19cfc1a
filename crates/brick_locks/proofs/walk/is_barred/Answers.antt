use Rattle.std.proofs.Common.{sym, ◌∙◌}
use Rattle.brick_locks.proofs.Touches.{barred_exclusive, barred_none, barred_shared}
use Rattle.brick_locks.proofs.walk.is_barred.Goals as goal

pub returns-then-has_before : goal.returns-then-has_before
returns-then-has_before c = barred_exclusive c.args.cell c.args.shared _ _ c.cell_key.ensures (sym c.if-has_before.true ∙ c.has_before.ensures)

pub returns-then-shared : goal.returns-then-shared
returns-then-shared c = barred_none c.args.cell c.args.shared _ _ c.cell_key.ensures (sym c.if-has_before.false ∙ c.has_before.ensures) c.if-shared.true

pub returns : goal.returns
returns c = barred_shared c.args.cell c.args.shared _ _ _ _ c.cell_key.ensures c.cell_key-2.ensures (sym c.if-has_before.false ∙ c.has_before.ensures) c.if-shared.false c.has_before-2.ensures
