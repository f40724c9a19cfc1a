-- Numbers that do not fall, cut at a bound.
use Rattle.std.proofs.Common.{◌≡◌, refl, sym, ap, subst, ◌∙◌, arith, get_or}
use Rattle.std.specs.Prelude.{ℕ, zero, suc, ◌<◌, ◌≤◌, ◌+◌, ◌&&◌, nat_le, nat_lt, Bool, true, false, List, [], ◌∷◌, Some, length, slice_get, if◌then◌else◌}
use Rattle.std.proofs.lemmas.Bool.{ltb-true, ltb-false, leb-true}
use Rattle.std.proofs.lemmas.Option.{slice_get-get_or}
use Rattle.mount_log.proofs.Items.{some_is}
use Rattle.mount_log.specs.Submissions.{count_below}
use Rattle.run_audit.specs.Counting.{does_rise, DoNotFall, IsCut, IsBetween}

both : (a b : Bool) → (a && b) ≡ true → (a ≡ true) × (b ≡ true)
both true b e = (refl, e)
both false b e = absurd cc

-- none is below the floor
floor_low : (floor : ℕ) (xs : List ℕ) (j b : ℕ) → does_rise floor xs ≡ true → slice_get xs j ≡ Some b → floor ≤ b
floor_low floor [] j b rises is = absurd cc
floor_low floor (x ∷ xs) zero b rises is = let e = both (nat_le floor x) (does_rise x xs) rises in subst (λ (n : ℕ). floor ≤ n) (some_is x b is) (leb-true floor x e.0)
floor_low floor (x ∷ xs) (suc j) b rises is =
    let e = both (nat_le floor x) (does_rise x xs) rises in let l = leb-true floor x e.0 in let ih = floor_low x xs j b e.1 is in omega (arith, l, ih)

pub in_order : (floor : ℕ) (xs : List ℕ) (i j a b : ℕ) → does_rise floor xs ≡ true → i ≤ j → slice_get xs i ≡ Some a → slice_get xs j ≡ Some b → a ≤ b
in_order floor [] i j a b rises le x y = absurd cc
in_order floor (z ∷ xs) zero zero a b rises le x y = let e : a ≡ b = some_is a b (sym x ∙ y) in omega (arith, e)
in_order floor (z ∷ xs) zero (suc j) a b rises le x y = subst (λ (n : ℕ). n ≤ b) (some_is z a x) (floor_low z xs j b (both (nat_le floor z) (does_rise z xs) rises).1 y)
in_order floor (z ∷ xs) (suc i) zero a b rises le x y = absurd (omega (arith, le))
in_order floor (z ∷ xs) (suc i) (suc j) a b rises le x y = in_order z xs i j a b (both (nat_le floor z) (does_rise z xs) rises).1 (omega (arith, le)) x y

below_is : (n a : ℕ) → a ≤ n → nat_lt a (n + 1) ≡ true
below_is n a le = by (nat_lt a (n + 1)) refl where
  by : (b : Bool) → nat_lt a (n + 1) ≡ b → b ≡ true
  by true e = refl
  by false e = absurd (let g = ltb-false a (n + 1) e in omega (arith, le, g))

above_is : (n a : ℕ) → n < a → nat_lt a (n + 1) ≡ false
above_is n a lt = by (nat_lt a (n + 1)) refl where
  by : (b : Bool) → nat_lt a (n + 1) ≡ b → b ≡ false
  by false e = refl
  by true e = absurd (let g = ltb-true a (n + 1) e in omega (arith, lt, g))

abbrev one_if : Bool → ℕ
one_if b = if b then 1 else 0

none_below : (xs : List ℕ) (n : ℕ) → ((i a : ℕ) → slice_get xs i ≡ Some a → n < a) → count_below (n + 1) xs ≡ 0
none_below [] n high = refl
none_below (x ∷ xs) n high =
    let ih = none_below xs n (λ i a is. high (suc i) a is) in
    let z : one_if (nat_lt x (n + 1)) ≡ 0 = ap one_if (above_is n x (high 0 x refl)) in
    omega (arith, ih, z)

pub counted : (xs : List ℕ) (n m : ℕ) → IsCut xs n m → m ≡ count_below (n + 1) xs
counted [] n m cut = let f = cut.few in omega (arith, f)
counted (x ∷ xs) n zero cut = sym (none_below (x ∷ xs) n (λ i a is. cut.high i a (omega arith) is))
counted (x ∷ xs) n (suc m) cut =
    let f = cut.few in
    let ih = counted xs n m (record { few = omega (arith, f); low = λ i a lt is. cut.low (suc i) a (omega (arith, lt)) is; high = λ i a le is. cut.high (suc i) a (omega (arith, le)) is }) in
    let one : one_if (nat_lt x (n + 1)) ≡ 1 = ap one_if (below_is n x (cut.low 0 x (omega arith) refl)) in
    omega (arith, ih, one)

pub nothing_cut : (xs : List ℕ) (n : ℕ) → IsBetween xs n 0 (length xs)
nothing_cut xs n = record { order = omega arith; few = omega arith; below = λ i a lt is. absurd (omega (arith, lt)); above = λ i a le is. absurd (past xs i a le is) } where
  past : (ys : List ℕ) (i a : ℕ) → length ys ≤ i → slice_get ys i ≡ Some a → ⊥
  past [] i a le is = absurd cc
  past (y ∷ ys) zero a le is = omega (arith, le)
  past (y ∷ ys) (suc i) a le is = past ys i a (omega (arith, le)) is

module _ (xs : List ℕ) (n low high middle x : ℕ) (rises : DoNotFall xs) (between : IsBetween xs n low high) (from : low ≤ middle) (until : middle < high) (there : slice_get xs middle ≡ Some x) where
  pub cut_low : x ≤ n → IsBetween xs n (middle + 1) high
  cut_low le = record {
    order = omega (arith, until);
    few = between.few;
    below = λ i a lt is. let o = in_order 0 xs i middle a x rises (omega (arith, lt)) is there in omega (arith, o, le);
    above = between.above;
  }

  pub cut_high : n < x → IsBetween xs n low middle
  cut_high lt = record {
    order = from;
    few = let f = between.few in omega (arith, f, until);
    below = between.below;
    above = λ i a le is. let o = in_order 0 xs middle i x a rises le there is in omega (arith, o, lt);
  }

pub all_cut : (xs : List ℕ) (n low high : ℕ) → high ≤ low → IsBetween xs n low high → IsCut xs n low
all_cut xs n low high met between = record {
  few = let o = between.order in let f = between.few in omega (arith, o, f);
  low = between.below;
  high = λ i a le is. between.above i a (omega (arith, le, met)) is;
}

-- what holds of each number below one more
pub each_below : (P : ℕ → Type 0) (n : ℕ) → P n → ((p : ℕ) → p < n → P p) → (p : ℕ) → p < n + 1 → P p
each_below P n own before p lt = by (nat_lt p n) refl where
  by : (b : Bool) → nat_lt p n ≡ b → P p
  by true e = before p (ltb-true p n e)
  by false e = let le = ltb-false p n e in let same : n ≡ p = omega (arith, lt, le) in subst P same own

pub each_to : (P : ℕ → Type 0) (n : ℕ) → P n → ((p : ℕ) → p < n → P p) → (p : ℕ) → p ≤ n → P p
each_to P n own before p le = each_below P n own before p (omega (arith, le))
