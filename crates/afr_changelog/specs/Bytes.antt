-- The value of a changelog attribute, as cluster/replicate keeps it: three counters, for data, metadata
-- and entries, each of four bytes with the highest first.
use Rattle.std.specs.Prelude.{ℕ, List, [], ◌∷◌, ◌++◌, take, drop}
use Rattle.std.specs.Int.{w32, from_be_bytes, to_be_bytes}

-- the counters, each as its four bytes
abbrev pub encoded : List ℕ → List ℕ
encoded [] = []
encoded (counter ∷ counters) = to_be_bytes w32 counter ++ encoded counters

-- the number of the four bytes from a place on
abbrev pub counter_at : ℕ → List ℕ → ℕ
counter_at place bytes = from_be_bytes w32 (take 4 (drop place bytes))

-- the three counters that twelve bytes encode
abbrev pub counters_in : List ℕ → List ℕ
counters_in bytes = counter_at 0 bytes ∷ counter_at 4 bytes ∷ counter_at 8 bytes ∷ []
