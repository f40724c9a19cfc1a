-- The parsers of the parts of XDR. A parser of some bytes gives the value whose encoding begins them with the
-- bytes after it, or a fault: the first unit that continues no encoding, as the number of bytes from there on,
-- or that the bytes end first.
use Rattle.std.specs.List.{list_all}
use Rattle.std.specs.Prelude.{◌≡◌, ℕ, zero, suc, ◌+◌, ◌-◌, ◌*◌, ◌/◌, ◌%◌, ◌==◌, ◌&&◌, ◌||◌, not, nat_lt, nat_le, Bool, true, false, List, [], ◌∷◌, ◌++◌, length, take, drop, Option, Some, None, Result, Ok, Err, if◌then◌else◌}
use Rattle.byteorder.specs.Endian.{big_number}
use Rattle.wire_xdr.specs.Limits.{unit_range, max_unit, is_between}
use Rattle.wire_xdr.specs.declared.decode.faults.Fault.{Fault}
use Rattle.wire_xdr.specs.declared.decode.faults.Fault.TheVariants.{Wrong, Short, Memory}

abbrev pub Parser : Type 0 → Type 0
Parser A = List ℕ → Result (A × List ℕ) Fault

-- a function of the code answers as its parser, or that it is out of memory, of which this says nothing
abbrev pub Gives : {X A : Type 0} → (X → A × List ℕ) → Result X Fault → Result (A × List ℕ) Fault → Type 0
Gives seen (Ok x) reading = reading ≡ Ok (seen x)
Gives seen (Err (Wrong left)) reading = reading ≡ Err (Wrong left)
Gives seen (Err Short) reading = reading ≡ Err Short
Gives seen (Err (Memory error)) reading = Unit {0}

abbrev pub after : {A B : Type 0} → (A → Parser B) → Result (A × List ℕ) Fault → Result (B × List ℕ) Fault
after rest (Ok p) = rest p.0 p.1
after rest (Err fault) = Err fault

-- one part and then another
abbrev pub chain : {A B : Type 0} → Parser A → (A → Parser B) → Parser B
chain first rest bytes = after rest (first bytes)

abbrev pub done : {A : Type 0} → A → Parser A
done x bytes = Ok (x, bytes)

abbrev pub one : {A D : Type 0} → (A → D) → Parser A → Parser D
one make first = chain first (λ a. done (make a))

abbrev pub two : {A B D : Type 0} → (A → B → D) → Parser A → (A → Parser B) → Parser D
two make first second = chain first (λ a. chain (second a) (λ b. done (make a b)))

abbrev pub three : {A B C D : Type 0} → (A → B → C → D) → Parser A → (A → Parser B) → (A → B → Parser C) → Parser D
three {B = B} {C = C} make first second third = two {B = B × C} (λ a p. make a p.0 p.1) first (λ a. two (λ b c. (b, c)) (second a) (third a))

abbrev pub four : {A B C E D : Type 0} → (A → B → C → E → D) → Parser A → (A → Parser B) → (A → B → Parser C) → (A → B → C → Parser E) → Parser D
four {B = B} {C = C} {E = E} make first second third fourth =
    two {B = B × C × E} (λ a p. make a p.0 p.1 p.2) first (λ a. three (λ b c e. (b, c, e)) (second a) (third a) (fourth a))

-- four bytes that pass a test
abbrev pub quad_of : (List ℕ → Bool) → List ℕ → List ℕ → Result (List ℕ × List ℕ) Fault
quad_of fits quad rest = if fits quad then Ok (quad, rest) else Err (Wrong (4 + length rest))

abbrev pub quad_where : (List ℕ → Bool) → Parser (List ℕ)
quad_where fits [] = Err Short
quad_where fits (a ∷ []) = Err Short
quad_where fits (a ∷ b ∷ []) = Err Short
quad_where fits (a ∷ b ∷ c ∷ []) = Err Short
quad_where fits (a ∷ b ∷ c ∷ d ∷ rest) = quad_of fits (a ∷ b ∷ c ∷ d ∷ []) rest

abbrev pub is_byte : ℕ → Bool
is_byte b = nat_lt b 256

-- a unit whose number passes a test
unfoldable pub unit_where : (ℕ → Bool) → Parser ℕ
unit_where fits = one (big_number 4) (quad_where (λ quad. list_all is_byte quad && fits (big_number 4 quad)))

abbrev pub between_at : ℕ → ℕ → Parser ℕ
between_at least most = unit_where (is_between least most)

abbrev pub unit_at : Parser ℕ
unit_at = between_at 0 max_unit

abbrev pub flag_at : Parser Bool
flag_at = one (λ n. n == 1) (between_at 0 1)

-- a hyper between two numbers; its low unit is bounded only where its high unit is that of the bound
abbrev pub hyper_between : ℕ → ℕ → Parser ℕ
hyper_between least most =
    two (λ high low. high * unit_range + low) (between_at (least / unit_range) (most / unit_range))
    (λ high. between_at (if high == least / unit_range then least % unit_range else 0) (if high == most / unit_range then most % unit_range else max_unit))

abbrev pub hyper_at : Parser ℕ
hyper_at = two (λ high low. high * unit_range + low) unit_at (λ high. unit_at)

-- the bytes of a name compared with an earlier name, or with what is left of that one while they are the
-- same: whether they are less, and what is then left of it
abbrev pub is_less : Option (List ℕ) → List ℕ → Bool
is_less None bytes = false
is_less (Some []) bytes = false
is_less (Some (e ∷ earlier)) [] = false
is_less (Some (e ∷ earlier)) (b ∷ bytes) = if b == e then is_less (Some earlier) bytes else nat_lt b e

abbrev pub left_of : Option (List ℕ) → List ℕ → Option (List ℕ)
left_of None bytes = None
left_of (Some earlier) [] = Some earlier
left_of (Some []) (b ∷ bytes) = None
left_of (Some (e ∷ earlier)) (b ∷ bytes) = if b == e then left_of (Some earlier) bytes else None

abbrev pub is_free : Option (List ℕ) → Bool
is_free None = true
is_free (Some earlier) = false

-- the last bytes of a name, which must be greater than what is left
abbrev pub is_greater : Option (List ℕ) → List ℕ → Bool
is_greater earlier bytes = not (is_less earlier bytes) && is_free (left_of earlier bytes)

abbrev pub is_zero : ℕ → Bool
is_zero b = b == 0

-- four bytes inside a name, and the last one to four of it with the padding
abbrev pub is_inner_quad : (ℕ → Bool) → Option (List ℕ) → List ℕ → Bool
is_inner_quad class earlier quad = list_all class quad && not (is_less earlier quad)

abbrev pub is_last_quad : (ℕ → Bool) → Option (List ℕ) → ℕ → List ℕ → Bool
is_last_quad class earlier n quad = (list_all class (take n quad) && is_greater earlier (take n quad)) && list_all is_zero (drop n quad)

abbrev pub end_at : (ℕ → Bool) → Option (List ℕ) → ℕ → Parser (List ℕ)
end_at class earlier n = one (take n) (quad_where (is_last_quad class earlier n))

-- this many bytes of a class with their padding, greater than an earlier name where one is given
abbrev pub string_at : (ℕ → Bool) → Option (List ℕ) → ℕ → Parser (List ℕ)
string_at class earlier zero = done []
string_at class earlier (suc zero) = end_at class earlier 1
string_at class earlier (suc (suc zero)) = end_at class earlier 2
string_at class earlier (suc (suc (suc zero))) = end_at class earlier 3
string_at class earlier (suc (suc (suc (suc zero)))) = end_at class earlier 4
string_at class earlier (suc (suc (suc (suc (suc n))))) =
    two (λ quad bytes. quad ++ bytes) (quad_where (is_inner_quad class earlier)) (λ quad. string_at class (left_of earlier quad) (suc n))

abbrev pub opaque_at : (ℕ → Bool) → Option (List ℕ) → ℕ → ℕ → Parser (List ℕ)
opaque_at class earlier least most = chain (between_at least most) (string_at class earlier)

abbrev pub any_byte : ℕ → Bool
any_byte b = true

-- bytes of any kind
abbrev pub bytes_at : ℕ → Parser (List ℕ)
bytes_at most = opaque_at any_byte None 0 most

-- the items of a list, each parsed by the one before it and the number of those after it
abbrev pub items_at : {A : Type 0} → (Option A → ℕ → Parser A) → Option A → ℕ → Parser (List A)
items_at item earlier zero = done []
items_at item earlier (suc n) = two (λ x xs. x ∷ xs) (item earlier n) (λ x. items_at item (Some x) n)

abbrev pub list_at : {A : Type 0} → (Option A → ℕ → Parser A) → ℕ → ℕ → Parser (List A)
list_at item least most = chain (between_at least most) (items_at item None)
