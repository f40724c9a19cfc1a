-- What is taken and what is left are the merge; each turn takes a name.
use Rattle.std.proofs.Common.{◌≡◌, ◌+◌, ◌++◌, length, reverse}
use Rattle.dht_fops.specs.Merges.{merged}
use Rattle.dht_fops.proofs.merge.merge.Given as goal

abbrev pub invariant-loop-item : goal.invariant-loop-item
invariant-loop-item l = l.all.items ++ merged (reverse l.left.items) (reverse l.right.items) ≡ merged l.fn.first l.fn.second

abbrev pub decreases-loop-item : goal.decreases-loop-item
decreases-loop-item l = length l.left.items + length l.right.items
