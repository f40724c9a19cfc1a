-- Marking numbers.
use Rattle.std.proofs.Common.{◌≡◌, ℕ, zero, suc, ◌<◌, ◌≤◌, ◌==◌, ◌||◌, Bool, true, false, List, [], ◌∷◌, length, slice_set, replicate, refl, sym, ap, ◌∙◌, arith}
use Rattle.std.proofs.lemmas.Bool.Decides.{nat_tests}
use Rattle.graph_build.specs.Marks.{at}
use Rattle.graph_build.specs.PlanRules.{has_place, repeats}

pub count_true : List Bool → ℕ
count_true [] = 0
count_true (true ∷ bs) = suc (count_true bs)
count_true (false ∷ bs) = count_true bs

pub count_within : (bs : List Bool) → count_true bs ≤ length bs
unfolding count_true
count_within [] = omega arith
count_within (true ∷ bs) = omega (arith, count_within bs)
count_within (false ∷ bs) = omega (arith, count_within bs)

pub count_set : (bs : List Bool) (p : ℕ) → p < length bs → at bs p ≡ false → count_true (slice_set bs p true) ≡ suc (count_true bs)
unfolding count_true
count_set [] p within is = absurd (omega (arith, within))
count_set (true ∷ bs) zero within is = absurd cc
count_set (false ∷ bs) zero within is = refl
count_set (true ∷ bs) (suc p) within is = ap suc (count_set bs p (omega (arith, within)) is)
count_set (false ∷ bs) (suc p) within is = count_set bs p (omega (arith, within)) is

pub no_zero : (q : ℕ) → (suc q == 0) ≡ false
no_zero q = grind (arith, nat_tests)

pub zero_no : (q : ℕ) → (0 == suc q) ≡ false
zero_no q = grind (arith, nat_tests)

pub both_suc : (p q : ℕ) → (q == p) ≡ (suc q == suc p)
both_suc p q = grind (arith, nat_tests)

-- a number is marked where it was or is this one
pub at_set : (bs : List Bool) (p q : ℕ) → p < length bs → at (slice_set bs p true) q ≡ ((q == p) || at bs q)
at_set [] p q within = absurd (omega (arith, within))
at_set (b ∷ bs) zero zero within = refl
at_set (b ∷ bs) zero (suc q) within = ap (λ t. t || at bs q) (sym (no_zero q))
at_set (b ∷ bs) (suc p) zero within = ap (λ t. t || b) (sym (zero_no p))
at_set (b ∷ bs) (suc p) (suc q) within = at_set bs p q (omega (arith, within)) ∙ ap (λ t. t || at bs q) (both_suc p q)

pub repeats_same : (f g : ℕ → Bool) → ((q : ℕ) → f q ≡ g q) → (ps : List ℕ) → repeats f ps ≡ repeats g ps
repeats_same f g e [] = refl
repeats_same f g e (p ∷ ps) =
    ap (λ t. t || repeats (λ q. (q == p) || f q) ps) (e p) ∙ ap (λ t. g p || t) (repeats_same (λ q. (q == p) || f q) (λ q. (q == p) || g q) (λ q. ap (λ t. (q == p) || t) (e q)) ps)

or_false : (a b : Bool) → a ≡ false → (a || b) ≡ b
or_false true b e = absurd cc
or_false false b e = refl

or_swap : (a b c : Bool) → (a || (b || c)) ≡ ((b || a) || c)
or_swap true true c = refl
or_swap true false c = refl
or_swap false true c = refl
or_swap false false c = refl

-- ---- one number is marked
pub repeats_step : (flags : List Bool) (p : ℕ) (ps rest : List ℕ) (r : Bool) → ps ≡ p ∷ rest → p < length flags → at flags p ≡ false → repeats (at flags) ps ≡ r → repeats (at (slice_set flags p true)) rest ≡ r
repeats_step flags p ps rest r cut within off whole =
    repeats_same (at (slice_set flags p true)) (λ q. (q == p) || at flags q) (λ q. at_set flags p q within) rest
    ∙ sym (or_false (at flags p) (repeats (λ q. (q == p) || at flags q) rest) off) ∙ ap (repeats (at flags)) (sym cut) ∙ whole

pub places_step : (flags : List Bool) (p : ℕ) (ps rest : List ℕ) (q : ℕ) (r : Bool) → ps ≡ p ∷ rest → p < length flags → (has_place q ps || at flags q) ≡ r → (has_place q rest || at (slice_set flags p true) q) ≡ r
places_step flags p ps rest q r cut within whole =
    ap (λ t. has_place q rest || t) (at_set flags p q within) ∙ or_swap (has_place q rest) (q == p) (at flags q) ∙ ap (λ (l : List ℕ). has_place q l || at flags q) (sym cut) ∙ whole

pub repeats_here : (flags : List Bool) (p : ℕ) (ps rest : List ℕ) (r : Bool) → ps ≡ p ∷ rest → at flags p ≡ true → repeats (at flags) ps ≡ r → true ≡ r
repeats_here flags p ps rest r cut on whole = ap (λ t. t || repeats (λ q. (q == p) || at flags q) rest) (sym on) ∙ ap (repeats (at flags)) (sym cut) ∙ whole

pub at_none : (n q : ℕ) → at (replicate n false) q ≡ false
at_none zero q = refl
at_none (suc n) zero = refl
at_none (suc n) (suc q) = at_none n q
