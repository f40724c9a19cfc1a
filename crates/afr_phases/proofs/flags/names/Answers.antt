use Rattle.std.proofs.Common.{arith, tests}
use Rattle.std.proofs.lemmas.Nat.{one_shl, pow_pos}
use Rattle.std.proofs.lemmas.Nat.Bits.{and_pow, bit_at-lt}
use Rattle.afr_phases.proofs.flags.names.Goals as goal

pub returns : goal.returns
returns c = grind (arith, tests, one_shl c.args.k 8 c.requires, and_pow c.args.mask.0 c.args.k, pow_pos c.args.k, bit_at-lt c.args.mask.0 c.args.k)
