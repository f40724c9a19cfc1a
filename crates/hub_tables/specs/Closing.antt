-- Which bricks are closed: those of which the last Closed or Opened that has arrived is a Closed. Ours.
use Rattle.std.specs.Prelude.{◌≡◌, ℕ}
use Rattle.fop_types.specs.declared.messages.OutKind.{OutKind}
use Rattle.fop_types.specs.declared.messages.OutKind.TheVariants as out
use Rattle.hub_tables.specs.declared.small_set.SmallSet.{SmallSet}
use Rattle.hub_tables.specs.SmallSets.{Adds, Drops}

-- what an output of a brick makes of them
abbrev pub ClosesBy : SmallSet → ℕ → OutKind → SmallSet → Type 0
ClosesBy old brick (out.Reply wind rep) new = new ≡ old
ClosesBy old brick out.Closed new = Adds old brick new
ClosesBy old brick out.Opened new = Drops old brick new
ClosesBy old brick (out.Connected graph version) new = new ≡ old
ClosesBy old brick (out.Malformed place) new = new ≡ old
