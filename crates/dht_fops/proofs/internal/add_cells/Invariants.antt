-- The cells so far.
use Rattle.std.proofs.Common.{◌≡◌, ◌++◌, map, take}
use Rattle.dht_fops.proofs.internal.add_cells.Given as goal

abbrev pub invariant-loop-cell : goal.invariant-loop-cell
invariant-loop-cell l = l.all ≡ l.fn.cells ++ map (λ cell. (l.set, cell)) (take l.cell-index l.listed)
