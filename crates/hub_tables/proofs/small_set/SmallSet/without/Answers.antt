use Rattle.std.proofs.Common.{ℕ, ◌≡◌, ◌-◌, nat_lt, ◌&&◌, ◌==◌, bit_and, ap, ◌∙◌}
use Rattle.std.specs.Int.{bit_at}
use Rattle.hub_tables.proofs.SmallSets.{drops_bit}
use Rattle.hub_tables.proofs.small_set.SmallSet.without.Goals as goal

pub returns : goal.returns
returns c = λ k. ap (λ (b : ℕ). nat_lt k 64 && (bit_at (bit_and c.args.self.0 (18446744073709551615 - b)) k == 1)) c.bit.ensures ∙ drops_bit c.args.self.0 c.args.number k
