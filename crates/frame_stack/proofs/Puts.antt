-- Reads of a list after one item was put into it.
use Rattle.std.proofs.Common.{◌≡◌, refl, sym, ap, subst, ◌∙◌, arith, get_or, set}
use Rattle.std.specs.Prelude.{ℕ, ◌≢◌, zero, suc, ◌≤◌, ◌<◌, ◌+◌, ◌==◌, cond, Bool, true, false, List, [], ◌∷◌, ◌++◌, length}
use Rattle.std.proofs.lemmas.Bool.{eqb-true, eqb-false, eq-eqb, ne_eqb}
use Rattle.std.proofs.lemmas.List.{length-set, length-append, get_or-set_same, get_or-set_other}
use Rattle.frame_stack.specs.Cells.{put_at}

module _ {X : Type 0} where
  pub put_last : (xs : List X) (k : ℕ) (x : X) → k ≡ length xs → put_at xs k x ≡ xs ++ x ∷ []
  put_last xs k x e = ap (λ b. cond b (xs ++ x ∷ []) (set xs k x)) (eq-eqb k (length xs) e)

  pub put_in : (xs : List X) (k : ℕ) (x : X) → k ≢ length xs → put_at xs k x ≡ set xs k x
  put_in xs k x e = ap (λ b. cond b (xs ++ x ∷ []) (set xs k x)) (ne_eqb k (length xs) e)

  pub put_within : (xs : List X) (k : ℕ) (x : X) → k < length xs → put_at xs k x ≡ set xs k x
  put_within xs k x h = put_in xs k x (λ e. omega (arith, h, e))

  -- what is read where the default was written is the default, also past the end
  pub set_default : (xs : List X) (k : ℕ) (d : X) → get_or (set xs k d) k d ≡ d
  set_default [] k d = refl
  set_default (x ∷ xs) zero d = refl
  set_default (x ∷ xs) (suc k) d = set_default xs k d

  push_same : (xs : List X) (x d : X) → get_or (xs ++ x ∷ []) (length xs) d ≡ x
  push_same [] x d = refl
  push_same (y ∷ ys) x d = push_same ys x d

  push_other : (xs : List X) (j : ℕ) (x d : X) → j ≢ length xs → get_or (xs ++ x ∷ []) j d ≡ get_or xs j d
  push_other [] zero x d h = absurd (h refl)
  push_other [] (suc j) x d h = refl
  push_other (y ∷ ys) zero x d h = refl
  push_other (y ∷ ys) (suc j) x d h = push_other ys j x d (λ e. h (ap suc e))

  pub put_same : (xs : List X) (k : ℕ) (x d : X) → k ≤ length xs → get_or (put_at xs k x) k d ≡ x
  put_same xs k x d h = by_case (k == length xs) refl where
    by_case : (b : Bool) → (k == length xs) ≡ b → get_or (put_at xs k x) k d ≡ x
    by_case true e = let is = eqb-true k (length xs) e in ap (λ ys. get_or ys k d) (put_last xs k x is) ∙ ap (λ n. get_or (xs ++ x ∷ []) n d) is ∙ push_same xs x d
    by_case false e = let differs = eqb-false k (length xs) e in ap (λ ys. get_or ys k d) (put_in xs k x differs) ∙ get_or-set_same xs k x d (within differs) where
      within : k ≢ length xs → k < length xs
      within differs = omega (arith, h, differs)

  pub put_other : (xs : List X) (k j : ℕ) (x d : X) → j ≢ k → get_or (put_at xs k x) j d ≡ get_or xs j d
  put_other xs k j x d h = by_case (k == length xs) refl where
    by_case : (b : Bool) → (k == length xs) ≡ b → get_or (put_at xs k x) j d ≡ get_or xs j d
    by_case true e = let is = eqb-true k (length xs) e in ap (λ ys. get_or ys j d) (put_last xs k x is) ∙ push_other xs j x d (λ same. h (same ∙ sym is))
    by_case false e = ap (λ ys. get_or ys j d) (put_in xs k x (eqb-false k (length xs) e)) ∙ get_or-set_other xs k j x d h

  pub length_put : (xs : List X) (k : ℕ) (x : X) → k ≤ length xs → length (put_at xs k x) ≡ cond (k == length xs) (length xs + 1) (length xs)
  length_put xs k x h = by_case (k == length xs) refl where
    by_case : (b : Bool) → (k == length xs) ≡ b → length (cond b (xs ++ x ∷ []) (set xs k x)) ≡ cond b (length xs + 1) (length xs)
    by_case true e = length-append xs (x ∷ [])
    by_case false e = length-set xs k x

pub length_puts : {X Y : Type 0} (xs : List X) (ys : List Y) (k : ℕ) (x : X) (y : Y) → length xs ≡ length ys → k ≤ length xs → length (put_at xs k x) ≡ length (put_at ys k y)
length_puts xs ys k x y same h = length_put xs k x h ∙ ap (λ n. cond (k == n) (n + 1) n) same ∙ sym (length_put ys k y (subst (λ n. k ≤ n) same h))
