-- Tests and counts over a list that grows at its end or has one item written.
use Rattle.std.proofs.Common.{◌≡◌, refl, ap, subst, ◌∙◌, arith, set}
use Rattle.std.specs.Prelude.{ℕ, ◌≢◌, zero, suc, ◌≤◌, ◌<◌, ◌+◌, ◌==◌, ◌||◌, ◌&&◌, cond, Bool, true, false, List, [], ◌∷◌, ◌++◌, length, slice_get, Option, Some, None, count_by}
use Rattle.std.specs.List.{list_any}
use Rattle.std.proofs.lemmas.Bool.{eqb-true, eqb-false}
use Rattle.std.proofs.lemmas.List.Folds.{list_any-append}
use Rattle.std.proofs.lemmas.List.Sums.{sum_by-set, sum_by-append, sum_by-cons}
use Rattle.frame_stack.specs.Cells.{cell_at, put_at}
use Rattle.frame_stack.proofs.Puts.{put_last, put_in}

pub or_false : (b : Bool) → (b || false) ≡ b
or_false true = refl
or_false false = refl

pub or_true : (a b : Bool) → b ≡ true → (a || b) ≡ true
or_true true b h = refl
or_true false b h = h

pub or_left : (a b : Bool) → a ≡ true → (a || b) ≡ true
or_left true b h = refl
or_left false b h = absurd cc

pub or_none : (a b : Bool) → a ≡ false → b ≡ false → (a || b) ≡ false
or_none true b h i = absurd cc
or_none false b h i = i

pub and_true : (a b : Bool) → a ≡ true → b ≡ true → (a && b) ≡ true
and_true true b h i = i
and_true false b h i = absurd cc

pub and_false : (a b : Bool) → a ≡ false → (a && b) ≡ false
and_false true b h = absurd cc
and_false false b h = refl

pub and_false_right : (a b : Bool) → b ≡ false → (a && b) ≡ false
and_false_right true b h = h
and_false_right false b h = refl

first_no : (a b : Bool) → (a || b) ≡ false → a ≡ false
first_no true b h = absurd cc
first_no false b h = refl

rest_no : (a b : Bool) → (a || b) ≡ false → b ≡ false
rest_no true b h = absurd cc
rest_no false b h = h

module _ {X : Type 0} where
  pub any_push : (p : X → Bool) (xs : List X) (x : X) → list_any p (xs ++ x ∷ []) ≡ (list_any p xs || p x)
  any_push p xs x = list_any-append p xs (x ∷ []) ∙ ap (λ b. list_any p xs || b) (or_false (p x))

  -- an item stays where it is as others are put behind it, and the one behind them all is the last
  pub get_later : (xs : List X) (x y : X) (k : ℕ) → slice_get xs k ≡ Some y → slice_get (xs ++ x ∷ []) k ≡ Some y
  get_later [] x y k is = absurd cc
  get_later (z ∷ xs) x y zero is = is
  get_later (z ∷ xs) x y (suc k) is = get_later xs x y k is

  pub get_last : (xs : List X) (x : X) → slice_get (xs ++ x ∷ []) (length xs) ≡ Some x
  get_last [] x = refl
  get_last (z ∷ xs) x = get_last xs x

  pub count_push : (p : X → Bool) (xs : List X) (x : X) → count_by p (xs ++ x ∷ []) ≡ count_by p xs + cond (p x) 1 0
  count_push p xs x = let a = sum_by-append (λ y. cond (p y) 1 0) xs (x ∷ []) in let c = sum_by-cons (λ y. cond (p y) 1 0) x [] in omega (arith, a, c)

module _ {X : Type 0} (p : Option X → Bool) where
  -- where none passes, no cell passes
  pub none_passes : (cells : List (Option X)) (k : ℕ) (x : X) → list_any p cells ≡ false → cell_at cells k ≡ Some x → p (Some x) ≡ false
  none_passes [] k x none is = absurd cc
  none_passes (c ∷ cells) zero x none is = subst (λ o. p o ≡ false) is (first_no (p c) (list_any p cells) none)
  none_passes (c ∷ cells) (suc k) x none is = none_passes cells k x (rest_no (p c) (list_any p cells) none) is

  pub count_none : (cells : List (Option X)) → p None ≡ false → ((k : ℕ) (x : X) → cell_at cells k ≡ Some x → p (Some x) ≡ false) → count_by p cells ≡ 0
  count_none [] none all = refl
  count_none (None ∷ cells) none all = let ih = count_none cells none (λ k x is. all (suc k) x is) in let c = sum_by-cons (λ y. cond (p y) 1 0) None cells in let z : ◌≡◌ {A = ℕ} (cond (p None) 1 0) 0 = ap (λ b. cond b 1 0) none in omega (arith, ih, c, z)
  count_none (Some x ∷ cells) none all = let ih = count_none cells none (λ k y is. all (suc k) y is) in let c = sum_by-cons (λ y. cond (p y) 1 0) (Some x) cells in let z : ◌≡◌ {A = ℕ} (cond (p (Some x)) 1 0) 0 = ap (λ b. cond b 1 0) (all zero x refl) in omega (arith, ih, c, z)

  -- a cell that did not pass is filled
  pub count_put : (cells : List (Option X)) (k : ℕ) (c : Option X) → k ≤ length cells → p (cell_at cells k) ≡ false → count_by p (put_at cells k c) ≡ count_by p cells + cond (p c) 1 0
  count_put cells k c h free = by_case (k == length cells) refl where
    by_case : (b : Bool) → (k == length cells) ≡ b → count_by p (put_at cells k c) ≡ count_by p cells + cond (p c) 1 0
    by_case true e = ap (count_by p) (put_last cells k c (eqb-true k (length cells) e)) ∙ count_push p cells c
    by_case false e = let differs = eqb-false k (length cells) e in
        let z : ◌≡◌ {A = ℕ} (cond (p (cell_at cells k)) 1 0) 0 = ap (λ b. cond b 1 0) free in
        let s = sum_by-set (λ y. cond (p y) 1 0) cells k c None (within differs) in
        ap (count_by p) (put_in cells k c differs) ∙ omega (arith, s, z) where
          within : k ≢ length cells → k < length cells
          within differs = omega (arith, h, differs)

  -- a cell is emptied
  pub count_emptied : (cells : List (Option X)) (k : ℕ) (x : X) → k < length cells → cell_at cells k ≡ Some x → p None ≡ false → count_by p (set cells k None) + cond (p (Some x)) 1 0 ≡ count_by p cells
  count_emptied cells k x h is none =
      let s = sum_by-set (λ y. cond (p y) 1 0) cells k None None h in
      let z : ◌≡◌ {A = ℕ} (cond (p None) 1 0) 0 = ap (λ b. cond b 1 0) none in
      let o : ◌≡◌ {A = ℕ} (cond (p (cell_at cells k)) 1 0) (cond (p (Some x)) 1 0) = ap (λ c. cond (p c) 1 0) is in
      omega (arith, s, z, o)
