-- Sums over the numbers below a bound.
use Rattle.std.proofs.Common.{◌≡◌, refl, sym, ap, arith, inl, inr}
use Rattle.std.proofs.lemmas.Bool.{cases_eq}
use Rattle.std.proofs.lemmas.List.Sums.{sum_by-cons}
use Rattle.std.proofs.Math.Nat.{zero-mul, suc-mul}
use Rattle.std.specs.List.{sum_by}
use Rattle.std.specs.Prelude.{ℕ, ◌≢◌, ◌⊎◌, zero, suc, ◌≤◌, ◌<◌, ◌+◌, ◌*◌, cond, Bool, true, false, List, [], ◌∷◌, length, slice_index_or}
use Rattle.frame_driver.specs.Tasks.{one}

abbrev pub sum_to : ℕ → (ℕ → ℕ) → ℕ
sum_to zero f = 0
sum_to (suc n) f = sum_to n f + f n

pub sum_le : (n : ℕ) (f g : ℕ → ℕ) → ((k : ℕ) → k < n → f k ≤ g k) → sum_to n f ≤ sum_to n g
sum_le zero f g h = omega (arith)
sum_le (suc n) f g h = let ih = sum_le n f g (λ k lt. h k (omega (arith, lt))) in let l = h n (omega (arith)) in omega (arith, ih, l)

pub sum_add : (n : ℕ) (f g : ℕ → ℕ) → sum_to n (λ k. f k + g k) ≡ sum_to n f + sum_to n g
sum_add zero f g = refl
sum_add (suc n) f g = let ih = sum_add n f g in omega (arith, ih)

pub sum_none : (n : ℕ) → sum_to n (λ k. 0) ≡ 0
sum_none zero = refl
sum_none (suc n) = let ih = sum_none n in omega (arith, ih)

pub sum_const : (n x : ℕ) → sum_to n (λ k. x) ≡ n * x
sum_const zero x = sym (zero-mul x)
sum_const (suc n) x = let ih = sum_const n x in let m = suc-mul n x in omega (arith, ih, m)

pub sum_swap : (n m : ℕ) (f : ℕ → ℕ → ℕ) → sum_to n (λ k. sum_to m (λ j. f k j)) ≡ sum_to m (λ j. sum_to n (λ k. f k j))
sum_swap zero m f = sym (sum_none m)
sum_swap (suc n) m f = let ih = sum_swap n m f in let a = sum_add m (λ j. sum_to n (λ k. f k j)) (λ j. f n j) in omega (arith, ih, a)

-- one of the numbers
pub sum_has : (n i : ℕ) (f : ℕ → ℕ) → i < n → f i ≤ sum_to n f
sum_has zero i f lt = absurd (omega (arith, lt))
sum_has (suc n) i f lt = by_place (λ before. sum_has n i f before) (cases_eq i n) where
  by_place : (i < n → f i ≤ sum_to n f) → (i ≡ n) ⊎ (i ≢ n) → f i ≤ sum_to (suc n) f
  by_place ih (inl same) = let e : f i ≡ f n = ap f same in omega (arith, e)
  by_place ih (inr differs) = let h = ih (omega (arith, lt, differs)) in omega (arith, h)

-- what comes at most once is at most itself
sum_zero : (n x : ℕ) (t : ℕ → Bool) → sum_to n (λ k. one (t k)) ≤ 0 → sum_to n (λ k. cond (t k) x 0) ≤ 0
sum_zero zero x t h = omega (arith)
sum_zero (suc n) x t h = by_last (λ less. sum_zero n x t less) (t n) refl where
  by_last : (sum_to n (λ k. one (t k)) ≤ 0 → sum_to n (λ k. cond (t k) x 0) ≤ 0) → (b : Bool) → t n ≡ b → sum_to (suc n) (λ k. cond (t k) x 0) ≤ 0
  by_last ih true is = absurd (let o : one (t n) ≡ 1 = ap one is in omega (arith, h, o))
  by_last ih false is = let o : one (t n) ≡ 0 = ap one is in let c : cond (t n) x 0 ≡ 0 = ap (λ b. cond b x 0) is in let z = ih (omega (arith, h, o)) in omega (arith, z, c)

pub sum_once : (n x : ℕ) (t : ℕ → Bool) → sum_to n (λ k. one (t k)) ≤ 1 → sum_to n (λ k. cond (t k) x 0) ≤ x
sum_once zero x t h = omega (arith)
sum_once (suc n) x t h = by_last (λ less. sum_once n x t less) (t n) refl where
  by_last : (sum_to n (λ k. one (t k)) ≤ 1 → sum_to n (λ k. cond (t k) x 0) ≤ x) → (b : Bool) → t n ≡ b → sum_to (suc n) (λ k. cond (t k) x 0) ≤ x
  by_last ih true is = let o : one (t n) ≡ 1 = ap one is in let c : cond (t n) x 0 ≡ x = ap (λ b. cond b x 0) is in let z = sum_zero n x t (omega (arith, h, o)) in omega (arith, z, c)
  by_last ih false is = let o : one (t n) ≡ 0 = ap one is in let c : cond (t n) x 0 ≡ 0 = ap (λ b. cond b x 0) is in let z = ih (omega (arith, h, o)) in omega (arith, z, c)

-- where no two numbers pass, one does at most
pub sum_single : (n : ℕ) (t : ℕ → Bool) → ((i j : ℕ) → t i ≡ true → t j ≡ true → i ≡ j) → sum_to n (λ k. one (t k)) ≤ 1
sum_single zero t single = omega (arith)
sum_single (suc n) t single = by_last (sum_single n t single) (t n) refl where
  none : t n ≡ true → (k : ℕ) → k < n → one (t k) ≤ 0
  none is k lt = by_case (t k) refl where
    by_case : (b : Bool) → t k ≡ b → one (t k) ≤ 0
    by_case true at = absurd (let e = single k n at is in omega (arith, e, lt))
    by_case false at = let o : one (t k) ≡ 0 = ap one at in omega (arith, o)

  by_last : sum_to n (λ k. one (t k)) ≤ 1 → (b : Bool) → t n ≡ b → sum_to (suc n) (λ k. one (t k)) ≤ 1
  by_last ih true is = let o : one (t n) ≡ 1 = ap one is in let l = sum_le n (λ k. one (t k)) (λ k. 0) (none is) in let z = sum_none n in omega (arith, l, z, o)
  by_last ih false is = let o : one (t n) ≡ 0 = ap one is in omega (arith, ih, o)

sum_first : (n : ℕ) (f : ℕ → ℕ) → sum_to (suc n) f ≡ f 0 + sum_to n (λ k. f (suc k))
sum_first zero f = omega (arith)
sum_first (suc n) f = let ih = sum_first n f in omega (arith, ih)

-- a sum over a list, by its places
pub sum_cells : {X : Type 0} (f : X → ℕ) (d : X) (xs : List X) → sum_by f xs ≡ sum_to (length xs) (λ k. f (slice_index_or xs k d))
sum_cells f d [] = refl
sum_cells f d (x ∷ xs) = let c = sum_by-cons f x xs in let ih = sum_cells f d xs in let s = sum_first (length xs) (λ k. f (slice_index_or (x ∷ xs) k d)) in omega (arith, c, ih, s)
