-- What an output of a brick says of the inputs before it: it begins with the number of inputs that the brick
-- had taken, as eight bytes with the highest first (RFC 4506's unsigned hyper). Ours.
use Rattle.std.specs.Prelude.{◌≡◌, ℕ, List, [], ◌∷◌, length, nat_lt, if◌then◌else◌}
use Rattle.byteorder.specs.Endian.{big_number}

-- how many inputs a message counts; 0 where it is too short for a count
abbrev pub taken_of : List ℕ → ℕ
taken_of message = if nat_lt (length message) 8 then 0 else big_number 8 message

-- the count of the first message of a list
abbrev pub IsFirstTaken : List (List ℕ) → ℕ → Type 0
IsFirstTaken [] n = ⊥
IsFirstTaken (message ∷ _) n = n ≡ taken_of message
