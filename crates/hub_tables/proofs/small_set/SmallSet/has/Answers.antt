use Rattle.std.proofs.Common.{ℕ, not, nat_eq, bit_and, ap, ◌∙◌}
use Rattle.hub_tables.proofs.SmallSets.{has_bit}
use Rattle.hub_tables.proofs.small_set.SmallSet.has.Goals as goal

pub returns : goal.returns
returns c = ap (λ (b : ℕ). not (nat_eq (bit_and c.args.self.0 b) 0)) c.bit.ensures ∙ has_bit c.args.self.0 c.args.number
