use Rattle.std.proofs.Common.{◌≡◌, ◌-◌, slice_get}
use Rattle.hub_tables.specs.SmallSets.{numbers, numbers_from}
use Rattle.hub_tables.proofs.small_set.SmallSet.nth.Given as goal

abbrev pub invariant-loop-number : goal.invariant-loop-number
invariant-loop-number l = slice_get (numbers l.fn.self) l.fn.at ≡ slice_get (numbers_from l.fn.self l.number (64 - l.number)) l.lower
