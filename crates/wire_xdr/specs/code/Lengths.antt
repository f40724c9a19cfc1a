-- The memory that an encoding is given: as many bytes as it has, or the most that 64 bits count.
use Rattle.std.specs.Prelude.{ℕ, ◌^◌, ◌-◌, min, List, length}

abbrev pub saturating_len : List ℕ → ℕ
saturating_len text = min (length text) (2 ^ 64 - 1)
