use Rattle.std.proofs.Common.{◌≡◌, ◌<◌, ◌^◌, ◌*◌, ◌+◌, length, drop}
use Rattle.xl_base.specs.Words.{number_of}
use Rattle.xl_base.proofs.decimals.number.Given as goal

abbrev pub invariant-loop-digit : goal.invariant-loop-digit
invariant-loop-digit l = (l.value < 2 ^ 64) × (l.value * 10 ^ length (drop l.digit-index l.digits) + number_of (drop l.digit-index l.digits) ≡ number_of l.digits)
