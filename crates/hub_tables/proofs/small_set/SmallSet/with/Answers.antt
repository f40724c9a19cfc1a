use Rattle.std.proofs.Common.{ℕ, ◌≡◌, nat_lt, ◌&&◌, ◌==◌, bit_or, ap, ◌∙◌}
use Rattle.std.specs.Int.{bit_at}
use Rattle.hub_tables.proofs.SmallSets.{adds_bit}
use Rattle.hub_tables.proofs.small_set.SmallSet.with.Goals as goal

pub returns : goal.returns
returns c = λ k l. ap (λ (b : ℕ). nat_lt k 64 && (bit_at (bit_or c.args.self.0 b) k == 1)) c.bit.ensures ∙ adds_bit c.args.self.0 c.args.number k l
