use Rattle.std.proofs.Common.{length, drop, ◌-◌, ◌≡◌, ◌≤◌, ◌++◌}
use Rattle.xl_base.specs.Words.{bytes_of}
use Rattle.xl_base.proofs.hexadecimals.hex.Given as goal

abbrev pub invariant-loop-at : goal.invariant-loop-at
invariant-loop-at l = (l.at ≤ length l.word) × (l.bytes.items ++ bytes_of (drop l.at l.word) ≡ bytes_of l.word)

abbrev pub decreases-loop-at : goal.decreases-loop-at
decreases-loop-at l = length l.word - l.at
