use Rattle.std.proofs.Common.{◌≡◌, take}
use Rattle.afr_ledger.specs.Changes.{touching}
use Rattle.afr_ledger.proofs.changes.Changes.touching.Given as goal

abbrev pub invariant-loop-cell : goal.invariant-loop-cell
invariant-loop-cell g l = l.least ≡ touching g.C.Ord.cmp l.set (take l.cell-index l.cells) l.self
