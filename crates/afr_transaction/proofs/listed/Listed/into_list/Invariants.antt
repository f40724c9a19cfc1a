use Rattle.std.proofs.Common.{◌≡◌, ◌++◌, length}
use Rattle.afr_transaction.proofs.listed.Listed.into_list.Given as goal

abbrev pub invariant-loop-cell : goal.invariant-loop-cell
invariant-loop-cell l = l.list.items ++ l.cells.keys ≡ l.initial.cells.keys

abbrev pub decreases-loop-cell : goal.decreases-loop-cell
decreases-loop-cell l = length l.cells.keys
