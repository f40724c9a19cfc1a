-- How lists that follow one another compare.
use Rattle.std.proofs.Common.{inl, inr, ◌≡◌, ◌<◌, ◌≤◌, ◌∷◌, ◌∙◌, ◌++◌, ◌⊎◌, ◌+◌, ℕ, suc, zero, sym, refl, ap, ap₂, List, [], length, drop, slice_index_or, arith, append_assoc, length-append}
use Rattle.wire_xdr.specs.Xdr.{IsWhole}

pub record Longer {A : Type 0} (xs us : List A) : Type 0 where
  pub more : List A
  pub is : xs ≡ us ++ more

abbrev head_or : {A : Type 0} → A → List A → A
head_or d [] = d
head_or d (x ∷ xs) = x

abbrev tail_of : {A : Type 0} → List A → List A
tail_of [] = []
tail_of (x ∷ xs) = xs

pub heads : {A : Type 0} → (x y : A) (xs ys : List A) → x ∷ xs ≡ y ∷ ys → x ≡ y
heads x y xs ys e = ap (head_or x) e

pub tails : {A : Type 0} → (x y : A) (xs ys : List A) → x ∷ xs ≡ y ∷ ys → xs ≡ ys
tails x y xs ys e = ap tail_of e

pub cancel : {A : Type 0} → (xs ys zs : List A) → xs ++ ys ≡ xs ++ zs → ys ≡ zs
cancel [] ys zs e = e
cancel (x ∷ xs) ys zs e = cancel xs ys zs (tails x x (xs ++ ys) (xs ++ zs) e)

longer_cons : {A : Type 0} → (x u : A) (xs us : List A) → x ≡ u → Longer xs us → Longer (x ∷ xs) (u ∷ us)
longer_cons x u xs us e l = record { more = l.more; is = ap₂ (λ (h : _) (t : List _). h ∷ t) e l.is }

either_cons : {A : Type 0} → (x u : A) (xs us : List A) → x ≡ u → Longer xs us ⊎ Longer us xs → Longer (x ∷ xs) (u ∷ us) ⊎ Longer (u ∷ us) (x ∷ xs)
either_cons x u xs us e (inl l) = inl (longer_cons x u xs us e l)
either_cons x u xs us e (inr l) = inr (longer_cons u x us xs (sym e) l)

pub compare : {A : Type 0} → (xs ys us vs : List A) → xs ++ ys ≡ us ++ vs → Longer xs us ⊎ Longer us xs
compare [] ys us vs e = inr (record { more = us; is = refl })
compare (x ∷ xs) ys [] vs e = inl (record { more = x ∷ xs; is = refl })
compare (x ∷ xs) ys (u ∷ us) vs e =
    either_cons x u xs us (heads x u (xs ++ ys) (us ++ vs) e) (compare xs ys us vs (tails x u (xs ++ ys) (us ++ vs) e))

pub whole_append : (xs ys : List ℕ) → IsWhole xs → IsWhole ys → IsWhole (xs ++ ys)
whole_append [] ys h k = k
whole_append (a ∷ []) ys h k = absurd h
whole_append (a ∷ b ∷ []) ys h k = absurd h
whole_append (a ∷ b ∷ c ∷ []) ys h k = absurd h
whole_append (a ∷ b ∷ c ∷ d ∷ rest) ys h k = whole_append rest ys h k
