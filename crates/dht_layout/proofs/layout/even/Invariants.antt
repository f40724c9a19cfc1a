-- The ranges of the sets so far, with room for the others.
use Rattle.std.proofs.Common.{◌≡◌, ◌≤◌, map, vec_len, vec_capacity}
use Rattle.std.specs.List.{range_with_len}
use Rattle.std.specs.Prelude.{Some}
use Rattle.dht_layout.specs.Layouts.{even_span}
use Rattle.dht_layout.proofs.layout.even.Given as goal

abbrev pub invariant-loop-set : goal.invariant-loop-set
invariant-loop-set l = record {
  so_far : l.layout.items ≡ map (λ set. Some (even_span l.sets set)) (range_with_len 0 l.set);
  count : vec_len l.layout ≡ l.set;
  room : l.sets ≤ vec_capacity l.layout;
}
