-- The search of the rest gives the search's answer.
use Rattle.std.proofs.Common.{◌≡◌, drop}
use Rattle.fop_types.specs.Names.{has_real_name}
use Rattle.dht_fops.proofs.drops.has_real_name.Given as goal

abbrev pub invariant-loop-item : goal.invariant-loop-item
invariant-loop-item l = has_real_name (drop l.item-index l.items) ≡ has_real_name l.items
