-- The parts of XDR, as RFC 4506 writes them: units of four bytes with the highest byte first; a hyper is
-- two units, the high one first; an opaque is its length, its bytes and zero bytes up to a whole unit; a
-- list is its count and its items.
use Rattle.std.specs.Prelude.{ℕ, zero, suc, ◌/◌, ◌%◌, ◌^◌, ◌<◌, Bool, true, false, List, [], ◌∷◌, ◌++◌, length, flat_map}
use Rattle.byteorder.specs.Endian.{big_bytes}
use Rattle.wire_xdr.specs.Limits.{unit_range}
pub use Rattle.fop_types.specs.Bounds.{IsUnit, IsHyper}

unfoldable pub unit : ℕ → List ℕ
unit n = big_bytes 4 n

abbrev pub hyper : ℕ → List ℕ
hyper n = unit (n / unit_range) ++ unit (n % unit_range)

abbrev pub flag_number : Bool → ℕ
flag_number false = 0
flag_number true = 1

abbrev pub flag : Bool → List ℕ
flag b = unit (flag_number b)

-- the zero bytes after this many bytes
abbrev pub padding : ℕ → List ℕ
padding zero = []
padding (suc zero) = 0 ∷ 0 ∷ 0 ∷ []
padding (suc (suc zero)) = 0 ∷ 0 ∷ []
padding (suc (suc (suc zero))) = 0 ∷ []
padding (suc (suc (suc (suc n)))) = padding n

abbrev pub padded : List ℕ → List ℕ
padded bytes = bytes ++ padding (length bytes)

abbrev pub opaque : List ℕ → List ℕ
opaque bytes = unit (length bytes) ++ padded bytes

abbrev pub texts : {A : Type 0} → (A → List ℕ) → List A → List ℕ
texts text xs = flat_map text xs

abbrev pub list : {A : Type 0} → (A → List ℕ) → List A → List ℕ
list text xs = unit (length xs) ++ texts text xs

-- bytes of whole units
abbrev pub IsWhole : List ℕ → Type 0
IsWhole [] = Unit {0}
IsWhole (a ∷ []) = ⊥
IsWhole (a ∷ b ∷ []) = ⊥
IsWhole (a ∷ b ∷ c ∷ []) = ⊥
IsWhole (a ∷ b ∷ c ∷ d ∷ rest) = IsWhole rest
