-- The items so far that are no links.
use Rattle.std.proofs.Common.{◌≡◌}
use Rattle.dht_fops.specs.Merges.{real_items}
use Rattle.dht_fops.proofs.merge.real_items.Given as goal

abbrev pub invariant-loop-item : goal.invariant-loop-item
invariant-loop-item l = l.kept.items ≡ real_items l.yielded
