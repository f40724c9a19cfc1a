-- The entries that changes were taken for, by the changes' numbers.
use Rattle.std.specs.Prelude.{◌≡◌, ℕ, List, Option, None, Some}
use Rattle.std.specs.Map.{lookup}
use Rattle.std.specs.Ordering.{nat_cmp}
use Rattle.std.specs.BTreeMap.{is_at}

-- the place of the entry that a change was taken for
abbrev pub claim_of : List (ℕ × ℕ) → ℕ → Option ℕ
claim_of claims change = lookup (is_at (nat_cmp change)) claims

abbrev pub place_or_first : Option ℕ → ℕ
place_or_first None = 0
place_or_first (Some k) = k

-- the same for every change, where those that were not taken may have any place
abbrev pub entry_by : List (ℕ × ℕ) → ℕ → ℕ
entry_by claims change = place_or_first (claim_of claims change)

-- what was taken stays so
abbrev pub KeepClaims : List (ℕ × ℕ) → List (ℕ × ℕ) → Type 0
KeepClaims before after = (change k : ℕ) → claim_of before change ≡ Some k → claim_of after change ≡ Some k
