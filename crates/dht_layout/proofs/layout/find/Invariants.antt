-- The search of the rest gives the search's answer, and no lower set has the hash.
use Rattle.std.proofs.Common.{◌≡◌, ℕ, ◌<◌, drop}
use Rattle.std.specs.List.{position, position_from}
use Rattle.dht_layout.specs.Layouts.{holds, Has}
use Rattle.dht_layout.proofs.layout.find.Given as goal

abbrev pub invariant-loop-set : goal.invariant-loop-set
invariant-loop-set l = record {
  rest : position_from (holds l.hash) l.set (drop l.set l.layout) ≡ position (holds l.hash) l.layout;
  lower : (k : ℕ) → k < l.set → ¬ Has l.layout k l.hash;
}
