-- One step of a search by halves, and of a look at whether names rise.
use Rattle.std.proofs.Common.{◌≡◌, ℕ, zero, suc, ◌+◌, ◌-◌, ◌<◌, ◌≤◌, Bool, true, false, ◌&&◌, List, [], ◌∷◌, Option, Some, None, IfSome, refl, sym, ap, ◌∙◌, arith, subst, map, length, drop, slice_get, get_or}
use Rattle.std.specs.declared.cmp.Ordering.TheVariants.{Less, Equal, Greater}
use Rattle.std.specs.Ordering.{nat_cmp, is_lt}
use Rattle.std.specs.Cmp.Lexicographic.{slice_cmp}
use Rattle.contents.specs.Rising.{IsPast, IsBelow, GoesAt, is_before, are_rising}
use Rattle.contents.proofs.RisingNames.{length_names}
use Rattle.contents.proofs.SameNames.{name_is}

pub name_read : {X : Type 0} (name : X → List ℕ) (xs : List X) (i : ℕ) (d : X) (n : List ℕ) → i < length xs → n ≡ name (get_or xs i d) → slice_get (map name xs) i ≡ Some n
name_read name [] i d n low is = absurd (omega (arith, low))
name_read name (x ∷ xs) zero d n low is = ap Some (sym is)
name_read name (x ∷ xs) (suc i) d n low is = name_read name xs i d n (omega (arith, low)) is

at_end : (names : List (List ℕ)) → slice_get names (length names) ≡ None
at_end [] = refl
at_end (n ∷ names) = at_end names

pub end_below : {X : Type 0} (name : X → List ℕ) (xs : List X) (i : ℕ) (n : List ℕ) → i ≡ length xs → IsBelow (map name xs) i n
end_below name xs i n is = subst (λ (o : Option (List ℕ)). IfSome o (λ other. slice_cmp nat_cmp n other ≡ Less)) (sym (ap (slice_get (map name xs)) (is ∙ sym (length_names name xs)) ∙ at_end (map name xs))) tt

pub below_at : (names : List (List ℕ)) (i : ℕ) (n other : List ℕ) → slice_get names i ≡ Some other → slice_cmp nat_cmp n other ≡ Less → IsBelow names i n
below_at names i n other is less = subst (λ (o : Option (List ℕ)). IfSome o (λ m. slice_cmp nat_cmp n m ≡ Less)) (sym is) less

pub past_at : (names : List (List ℕ)) (i l : ℕ) (n other : List ℕ) → l ≡ i + 1 → slice_get names i ≡ Some other → slice_cmp nat_cmp n other ≡ Greater → IsPast names l n
past_at names i l n other next is more =
    let up : l ≡ suc i = omega (arith, next) in
    subst (λ (j : ℕ). IsPast names j n) (sym up) (subst (λ (o : Option (List ℕ)). IfSome o (λ m. slice_cmp nat_cmp n m ≡ Greater)) (sym is) more)

pub same_at : (names : List (List ℕ)) (i : ℕ) (n other : List ℕ) → slice_get names i ≡ Some other → slice_cmp nat_cmp n other ≡ Equal → slice_get names i ≡ Some n
same_at names i n other is tie = is ∙ ap Some (sym (name_is n other tie))

pub goes_there : {X : Type 0} (name : X → List ℕ) (xs : List X) (low high : ℕ) (n : List ℕ) → low ≤ high → high ≤ low → high ≤ length xs → IsPast (map name xs) low n → IsBelow (map name xs) high n → GoesAt (map name xs) n low
goes_there name xs low high n a b within past below =
    let e = length_names name xs in
    let same : high ≡ low = omega (arith, a, b) in
    record { within = omega (arith, a, within, e); past = past; below = subst (λ (i : ℕ). IsBelow (map name xs) i n) same below }

-- ---- whether names rise
drop_at : (names : List (List ℕ)) (i : ℕ) (n : List ℕ) → slice_get names i ≡ Some n → drop i names ≡ n ∷ drop (suc i) names
drop_at [] i n is = absurd cc
drop_at (m ∷ names) zero n is = ap (λ (l : List ℕ). l ∷ names) (let e : m ≡ n = cc in e)
drop_at (m ∷ names) (suc i) n is = drop_at names i n is

two_at : (names : List (List ℕ)) (i : ℕ) (m n : List ℕ) → slice_get names i ≡ Some m → slice_get names (suc i) ≡ Some n → are_rising (drop i names) ≡ (is_lt (slice_cmp nat_cmp m n) && are_rising (drop (suc i) names))
two_at names i m n one two =
    ap are_rising (drop_at names i m one)
    ∙ ap (λ (l : List (List ℕ)). is_before m l && are_rising (drop (suc i) names)) (drop_at names (suc i) n two)

pub rise_more : (names : List (List ℕ)) (at : ℕ) (m n : List ℕ) (w : Bool) → 1 ≤ at → slice_get names (at - 1) ≡ Some m → slice_get names at ≡ Some n → is_lt (slice_cmp nat_cmp m n) ≡ true → are_rising (drop (at - 1) names) ≡ w → are_rising (drop (at + 1 - 1) names) ≡ w
rise_more names zero m n w low one two less so_far = absurd (omega (arith, low))
rise_more names (suc i) m n w low one two less so_far =
    let here : suc i - 1 ≡ i = omega arith in
    let next : suc i + 1 - 1 ≡ suc i = omega arith in
    ap (λ (j : ℕ). are_rising (drop j names)) next
    ∙ sym (ap (λ (b : Bool). b && are_rising (drop (suc i) names)) less)
    ∙ sym (two_at names i m n (sym (ap (slice_get names) here) ∙ one) two)
    ∙ sym (ap (λ (j : ℕ). are_rising (drop j names)) here)
    ∙ so_far

pub rise_ends : (names : List (List ℕ)) (at : ℕ) (m n : List ℕ) (w : Bool) → 1 ≤ at → slice_get names (at - 1) ≡ Some m → slice_get names at ≡ Some n → is_lt (slice_cmp nat_cmp m n) ≡ false → are_rising (drop (at - 1) names) ≡ w → false ≡ w
rise_ends names zero m n w low one two less so_far = absurd (omega (arith, low))
rise_ends names (suc i) m n w low one two less so_far =
    let here : suc i - 1 ≡ i = omega arith in
    sym (ap (λ (b : Bool). b && are_rising (drop (suc i) names)) less)
    ∙ sym (two_at names i m n (sym (ap (slice_get names) here) ∙ one) two)
    ∙ sym (ap (λ (j : ℕ). are_rising (drop j names)) here)
    ∙ so_far

last_rises : (names : List (List ℕ)) (i : ℕ) → length names ≤ suc i → are_rising (drop i names) ≡ true
last_rises [] zero h = refl
last_rises [] (suc i) h = refl
last_rises (n ∷ []) zero h = refl
last_rises (n ∷ m ∷ names) zero h = absurd (omega (arith, h))
last_rises (n ∷ names) (suc i) h = last_rises names i (omega (arith, h))

pub rise_all : {X : Type 0} (name : X → List ℕ) (xs : List X) (at : ℕ) (w : Bool) → length xs ≤ at → 1 ≤ at → are_rising (drop (at - 1) (map name xs)) ≡ w → true ≡ w
rise_all name xs at w past low so_far =
    let e = length_names name xs in
    sym (last_rises (map name xs) (at - 1) (omega (arith, e, past, low))) ∙ so_far
