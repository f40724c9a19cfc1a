use Rattle.std.proofs.Common.{◌≡◌, ℕ, ◌+◌, ◌*◌, ◌==◌, ap, ◌∙◌, arith}
use Rattle.std.specs.Int.{bit_at}
use Rattle.afr_phases.specs.Flags.{flag, flags_by, number_of}
use Rattle.afr_phases.proofs.Bits.{named}
use Rattle.afr_phases.proofs.flags.mask_of.Goals as goal

pub returns-clause-names : goal.returns-clause-names
returns-clause-names c =
    let e : c.bit.result + 2 * c.bit-2.result + 4 * c.bit-3.result + 8 * c.bit-4.result + 16 * c.bit-5.result ≡ number_of (flags_by (flag c.args.flags)) = omega arith in
    λ k h. ap (λ (n : ℕ). bit_at n k == 1) e ∙ named c.args.flags k h
