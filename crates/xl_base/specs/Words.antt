-- How a word of a text writes a number or bytes.
use Rattle.std.specs.Prelude.{ℕ, ◌+◌, ◌-◌, ◌*◌, ◌%◌, ◌^◌, ◌==◌, ◌&&◌, ◌||◌, not, nat_lt, nat_le, Bool, if◌then◌else◌, List, [], ◌∷◌, length, slice_index, Option, Some, None}
use Rattle.std.specs.List.{list_all}

-- the bytes of `0` to `9`
abbrev pub is_digit : ℕ → Bool
is_digit b = nat_le 48 b && nat_le b 57

-- the number that decimal digits write: each counts its value times ten to the number of digits after it
abbrev pub number_of : List ℕ → ℕ
number_of [] = 0
number_of (d ∷ ds) = (d - 48) * 10 ^ length ds + number_of ds

-- one to twenty digits, the first of them `0` only where it is the only one
abbrev pub has_decimal_form : List ℕ → Bool
has_decimal_form w = nat_le 1 (length w) && nat_le (length w) 20 && list_all is_digit w && (length w == 1 || not (slice_index w 0 == 48))

-- a number, where it is below 2^64
abbrev pub fitting : ℕ → Option ℕ
fitting n = if nat_lt n (2 ^ 64) then Some n else None

-- the number of a word of that form, where it is below 2^64
abbrev pub decimal_of : List ℕ → Option ℕ
decimal_of w = if has_decimal_form w then fitting (number_of w) else None

-- the bytes of `0` to `9` and `a` to `f`
abbrev pub is_hex_digit : ℕ → Bool
is_hex_digit b = is_digit b || (nat_le 97 b && nat_le b 102)

abbrev pub hex_value : ℕ → ℕ
hex_value b = if nat_le b 57 then b - 48 else b - 87

-- the bytes that pairs of hexadecimal digits write, the high four bits first
abbrev pub bytes_of : List ℕ → List ℕ
bytes_of [] = []
bytes_of (high ∷ []) = []
bytes_of (high ∷ low ∷ rest) = (hex_value high * 16 + hex_value low) ∷ bytes_of rest

-- the bytes of an even number of lower case hexadecimal digits
abbrev pub hex_of : List ℕ → Option (List ℕ)
hex_of w = if list_all is_hex_digit w && (length w % 2 == 0) then Some (bytes_of w) else None
