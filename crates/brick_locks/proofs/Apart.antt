-- Held locks never conflict.
use Rattle.std.proofs.Common.{◌≡◌, Bool, true, false, ◌||◌, cond, List, [], ◌∷◌, ◌++◌, refl, ap, sym, ◌∙◌, append_assoc, subst}
use Rattle.std.specs.List.{list_any}
use Rattle.brick_locks.specs.declared.request.Request.{Request}
use Rattle.brick_locks.specs.Locks.{conflicts, is_kept_by, held_after, held, AreApart}

or_left : (a b : Bool) → (a || b) ≡ false → a ≡ false
or_left true b h = h
or_left false b h = refl

or_right : (a b : Bool) → (a || b) ≡ false → b ≡ false
or_right true b h = absurd cc
or_right false b h = h

any_at : (p : Request → Bool) (xs ys : List Request) (x : Request) → list_any p (xs ++ x ∷ ys) ≡ false → p x ≡ false
any_at p [] ys x h = or_left (p x) (list_any p ys) h
any_at p (z ∷ xs) ys x h = any_at p xs ys x (or_right (p z) (list_any p (xs ++ x ∷ ys)) h)

-- what holds later does not conflict with what was asked before
later_apart : (xs ys rs : List Request) (x : Request) → list_any (λ s. conflicts s x) (held_after (xs ++ x ∷ ys) rs) ≡ false
later_apart xs ys [] x = refl
later_apart xs ys (r ∷ rs) x =
    let on : list_any (λ s. conflicts s x) (held_after ((xs ++ x ∷ ys) ++ r ∷ []) rs) ≡ false = subst (λ (l : List Request). list_any (λ s. conflicts s x) (held_after l rs) ≡ false) (sym (append_assoc xs (x ∷ ys) (r ∷ []))) (later_apart xs (ys ++ r ∷ []) rs x) in
    (elim (is_kept_by (xs ++ x ∷ ys) r) as (λ b. is_kept_by (xs ++ x ∷ ys) r ≡ b → list_any (λ s. conflicts s x) (cond b (held_after ((xs ++ x ∷ ys) ++ r ∷ []) rs) (r ∷ held_after ((xs ++ x ∷ ys) ++ r ∷ []) rs)) ≡ false) [
      | true ↦ λ _. on
      | false ↦ λ t. rw (any_at (conflicts r) xs ys x t) on
    ]) refl

apart_after : (before rs : List Request) → AreApart (held_after before rs)
apart_after before [] = tt
apart_after before (r ∷ rs) = elim (is_kept_by before r) as (λ b. AreApart (cond b (held_after (before ++ r ∷ []) rs) (r ∷ held_after (before ++ r ∷ []) rs))) [
  | true ↦ apart_after (before ++ r ∷ []) rs
  | false ↦ (later_apart before [] rs r, apart_after (before ++ r ∷ []) rs)
]

pub held_apart : (rs : List Request) → AreApart (held rs)
held_apart rs = apart_after [] rs
