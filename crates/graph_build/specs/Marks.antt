-- Flags of the numbers 0 to 255, and those that are marked.
use Rattle.std.specs.Prelude.{ℕ, Bool, false, List, get_or}

-- whether a number is marked
abbrev pub at : List Bool → ℕ → Bool
at flags q = get_or flags q false
