-- The search of the rest gives the search's answer.
use Rattle.std.proofs.Common.{◌≡◌, drop, nat_eq}
use Rattle.std.specs.Cmp.Lexicographic.{pointwise}
use Rattle.std.specs.List.{position, position_from}
use Rattle.dht_linkto.proofs.set_names.set_named.Given as goal

abbrev pub invariant-loop-set : goal.invariant-loop-set
invariant-loop-set l = position_from (λ name. pointwise nat_eq name l.target) l.set (drop l.set l.names) ≡ position (λ name. pointwise nat_eq name l.target) l.names
