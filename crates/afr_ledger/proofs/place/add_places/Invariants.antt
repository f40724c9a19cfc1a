use Rattle.std.proofs.Common.{◌≡◌, ℕ, cond, take, Some}
use Rattle.afr_ledger.specs.Changes.{covers}
use Rattle.afr_ledger.specs.code.Places.{owner}
use Rattle.afr_ledger.proofs.place.add_places.Given as goal

abbrev pub invariant-loop-cell : goal.invariant-loop-cell
invariant-loop-cell g l = (s : ℕ) (c : _) → owner g.C.Ord.cmp l.places s c ≡ cond (covers g.C.Ord.cmp l.set (take l.cell-index l.cells) s c) (Some l.change) (owner g.C.Ord.cmp l.initial.places s c)
