-- The cell that is healed, and those after it.
use Rattle.std.proofs.Common.{◌∙◌, sym}
use Rattle.dht_fops.proofs.Rests.{heals_at}
use Rattle.dht_fops.proofs.internal.heal_from.Goals as goal

pub returns-in-Some : goal.returns-in-Some
returns-in-Some c = rw c.ask.ensures (heals_at c.args.volume c.args.cells c.args.place (c.in-Some.set, c.in-Some.cell) (sym c.item_at.ensures ∙ c.in-Some.is))
