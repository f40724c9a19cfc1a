-- Sets of numbers below 64, each number by one bit: of bricks, of sessions, of volfiles. Ours.
use Rattle.std.specs.Prelude.{◌≡◌, ℕ, zero, suc, ◌+◌, ◌^◌, ◌<◌, ◌==◌, nat_lt, Bool, true, false, ◌&&◌, ◌||◌, not, List, [], ◌∷◌, if◌then◌else◌}
use Rattle.std.specs.Int.{bit_at}
use Rattle.std.specs.List.{filter, list_any, range_with_len}
use Rattle.hub_tables.specs.declared.small_set.SmallSet.{SmallSet}

abbrev pub no_numbers : SmallSet
no_numbers = record { 0 = 0 }

-- the bit of a number, and none of a number from 64 on
abbrev pub bit_of : ℕ → ℕ
bit_of n = if nat_lt n 64 then 2 ^ n else 0

-- whether the number is in the set
abbrev pub has : SmallSet → ℕ → Bool
has set n = nat_lt n 64 && (bit_at set.0 n == 1)

-- the set has this number more, where it is below 64, and of the others those that it had
abbrev pub Adds : SmallSet → ℕ → SmallSet → Type 0
Adds old n new = (k : ℕ) → k < 64 → has new k ≡ ((n == k) || has old k)

-- the set has this number no more, and of the others those that it had
abbrev pub Drops : SmallSet → ℕ → SmallSet → Type 0
Drops old n new = (k : ℕ) → has new k ≡ (not (n == k) && has old k)

abbrev pub with_number : Bool → ℕ → List ℕ → List ℕ
with_number true n ns = n ∷ ns
with_number false n ns = ns

-- those of so many numbers, from n on, that are in the set
unfoldable pub numbers_from : SmallSet → ℕ → ℕ → List ℕ
numbers_from set n zero = []
numbers_from set n (suc more) = with_number (has set n) n (numbers_from set (n + 1) more)

-- the numbers of the set, rising
abbrev pub numbers : SmallSet → List ℕ
numbers set = numbers_from set 0 64

-- those of the 64 numbers of which something holds, rising
unfoldable pub numbers_where : (ℕ → Bool) → List ℕ
numbers_where test = filter test (range_with_len 0 64)

-- whether a number is among these
abbrev pub is_among : ℕ → List ℕ → Bool
is_among n numbers = list_any (λ k. n == k) numbers
