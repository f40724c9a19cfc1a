use Rattle.std.proofs.Common.{arith, tests}
use Rattle.std.proofs.lemmas.Nat.{one_shl, pow_pos}
use Rattle.std.proofs.lemmas.Nat.Bits.{and_pow, bit_at-lt}
use Rattle.change_audit.proofs.sources.names.Goals as goal

pub returns : goal.returns
returns c = grind (arith, tests, one_shl c.args.replica 8 c.requires, and_pow c.args.mask.0 c.args.replica, pow_pos c.args.replica, bit_at-lt c.args.mask.0 c.args.replica)
