-- The descriptor that is opened, and those after it.
use Rattle.std.proofs.Common.{◌∙◌, sym}
use Rattle.dht_fops.proofs.Rests.{opens_at}
use Rattle.dht_fops.proofs.internal.open_from.Goals as goal

pub returns-in-Some : goal.returns-in-Some
returns-in-Some c = rw c.ask.ensures (opens_at c.args.volume c.args.fds c.args.place c.in-Some.open (sym c.item_at.ensures ∙ c.in-Some.is))
