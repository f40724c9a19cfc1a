-- The bytes so far are zeros.
use Rattle.std.proofs.Common.{◌≡◌}
use Rattle.std.specs.List.{AllWithin}
use Rattle.lane_scan.proofs.plain.all_zero.Given as goal

abbrev pub invariant-loop-byte : goal.invariant-loop-byte
invariant-loop-byte l = AllWithin (λ byte. byte ≡ 0) l.block 0 l.byte-index
