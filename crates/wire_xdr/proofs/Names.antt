-- How std's comparison of names decides what the definition does byte by byte.
use Rattle.std.proofs.Common.{inl, inr, ◌≡◌, ◌<◌, ◌≤◌, ◌∷◌, ◌∙◌, ◌++◌, ◌⊎◌, ◌+◌, ℕ, suc, zero, Bool, true, false, not, sym, refl, ap, ap₂, subst, List, [], length, take, drop, arith, Option, Some, None, nat_eq, nat_lt, ◌==◌, ◌&&◌, true≢false, if◌then◌else◌}
use Rattle.std.specs.List.{starts_with, list_all}
use Rattle.std.specs.declared.cmp.Ordering.{Ordering}
use Rattle.std.specs.declared.cmp.Ordering.TheVariants.{Less, Equal, Greater}
use Rattle.std.specs.Ordering.{nat_cmp, is_lt, ordering_then}
use Rattle.std.specs.Cmp.{nat_cmp_is}
use Rattle.std.specs.Cmp.Lexicographic.{slice_cmp, pointwise}
use Rattle.wire_xdr.specs.code.Parsers.{is_less, left_of, is_greater, is_free}

pub data Three (a b : ℕ) : Type 0 where
  Below : a < b → Three a b
  Same : a ≡ b → Three a b
  Above : b < a → Three a b

pub three_ways : (a b : ℕ) → Three a b
three_ways zero zero = Same refl
three_ways zero (suc b) = Below (omega arith)
three_ways (suc a) zero = Above (omega arith)
three_ways (suc a) (suc b) = up (three_ways a b)
  where
    up : Three a b → Three (suc a) (suc b)
    up (Below h) = Below (omega (arith, h))
    up (Same h) = Same (ap suc h)
    up (Above h) = Above (omega (arith, h))

pub cmp_less : (a b : ℕ) → a < b → nat_cmp a b ≡ Less
cmp_less a b h = sym (nat_cmp_is a b Less h)

pub cmp_same : (a b : ℕ) → a ≡ b → nat_cmp a b ≡ Equal
cmp_same a b h = sym (nat_cmp_is a b Equal h)

pub cmp_more : (a b : ℕ) → b < a → nat_cmp a b ≡ Greater
cmp_more a b h = sym (nat_cmp_is a b Greater h)

pub eq_same : (a b : ℕ) → a ≡ b → (a == b) ≡ true
eq_same a b h = grind (arith, h)

pub eq_less : (a b : ℕ) → a < b → (a == b) ≡ false
eq_less a b h = grind (arith, h)

pub eq_more : (a b : ℕ) → b < a → (a == b) ≡ false
eq_more a b h = grind (arith, h)

pub lt_less : (a b : ℕ) → a < b → nat_lt a b ≡ true
lt_less a b h = grind (arith, h)

pub lt_more : (a b : ℕ) → b < a → nat_lt a b ≡ false
lt_more a b h = grind (arith, h)

pub less_by : (e q : List ℕ) → is_less (Some e) q ≡ (is_lt (slice_cmp nat_cmp q e) && not (starts_with nat_eq e q))
less_by [] [] = refl
less_by [] (b ∷ q) = refl
less_by (x ∷ e) [] = refl
less_by (x ∷ e) (b ∷ q) = at (less_by e q) (three_ways b x)
  where
    at : is_less (Some e) q ≡ (is_lt (slice_cmp nat_cmp q e) && not (starts_with nat_eq e q)) → Three b x → is_less (Some (x ∷ e)) (b ∷ q) ≡ (is_lt (slice_cmp nat_cmp (b ∷ q) (x ∷ e)) && not (starts_with nat_eq (x ∷ e) (b ∷ q)))
    at later (Below h) = rw (eq_less b x h, lt_less b x h) refl
    at later (Same h) =
        let c : slice_cmp nat_cmp (b ∷ q) (x ∷ e) ≡ slice_cmp nat_cmp q e = ap (λ (o : Ordering). ordering_then o (slice_cmp nat_cmp q e)) (cmp_same b x h) in
        let l : is_less (Some (x ∷ e)) (b ∷ q) ≡ is_less (Some e) q = ap (λ (t : Bool). if t then is_less (Some e) q else nat_lt b x) (eq_same b x h) in
        let s : starts_with nat_eq (x ∷ e) (b ∷ q) ≡ starts_with nat_eq e q = ap (λ (t : Bool). t && starts_with nat_eq e q) (eq_same b x h) in
        l ∙ later ∙ sym (ap₂ (λ (o : Ordering) (t : Bool). is_lt o && not t) c s)
    at later (Above h) = rw (eq_more b x h, lt_more b x h) refl

pub left_when : (e q : List ℕ) → starts_with nat_eq e q ≡ true → left_of (Some e) q ≡ Some (drop (length q) e)
left_when e [] h = refl
left_when [] (b ∷ q) h = absurd cc
left_when (x ∷ e) (b ∷ q) h = at (left_when e q) (three_ways b x)
  where
    at : (starts_with nat_eq e q ≡ true → left_of (Some e) q ≡ Some (drop (length q) e)) → Three b x → left_of (Some (x ∷ e)) (b ∷ q) ≡ Some (drop (suc (length q)) (x ∷ e))
    at later (Below k) = let f : starts_with nat_eq (x ∷ e) (b ∷ q) ≡ false = rw (eq_less b x k) refl in absurd (true≢false (sym h ∙ f))
    at later (Same k) = let f : starts_with nat_eq (x ∷ e) (b ∷ q) ≡ starts_with nat_eq e q = rw (eq_same b x k) refl in rw (eq_same b x k) (later (sym f ∙ h))
    at later (Above k) = let f : starts_with nat_eq (x ∷ e) (b ∷ q) ≡ false = rw (eq_more b x k) refl in absurd (true≢false (sym h ∙ f))

pub left_else : (e q : List ℕ) → starts_with nat_eq e q ≡ false → left_of (Some e) q ≡ None
left_else e [] h = absurd cc
left_else [] (b ∷ q) h = refl
left_else (x ∷ e) (b ∷ q) h = at (left_else e q) (three_ways b x)
  where
    at : (starts_with nat_eq e q ≡ false → left_of (Some e) q ≡ None) → Three b x → left_of (Some (x ∷ e)) (b ∷ q) ≡ None
    at later (Below k) = rw (eq_less b x k) refl
    at later (Same k) = let f : starts_with nat_eq (x ∷ e) (b ∷ q) ≡ starts_with nat_eq e q = rw (eq_same b x k) refl in rw (eq_same b x k) (later (sym f ∙ h))
    at later (Above k) = rw (eq_more b x k) refl

pub greater_by : (e q : List ℕ) → is_greater (Some e) q ≡ is_lt (slice_cmp nat_cmp e q)
greater_by [] [] = refl
greater_by [] (b ∷ q) = refl
greater_by (x ∷ e) [] = refl
greater_by (x ∷ e) (b ∷ q) = at (greater_by e q) (three_ways b x)
  where
    at : is_greater (Some e) q ≡ is_lt (slice_cmp nat_cmp e q) → Three b x → is_greater (Some (x ∷ e)) (b ∷ q) ≡ is_lt (slice_cmp nat_cmp (x ∷ e) (b ∷ q))
    at later (Below h) =
        let c : slice_cmp nat_cmp (x ∷ e) (b ∷ q) ≡ Greater = ap (λ (o : Ordering). ordering_then o (slice_cmp nat_cmp e q)) (cmp_more x b h) in
        rw (eq_less b x h, lt_less b x h) (ap is_lt (sym c))
    at later (Same h) =
        let c : slice_cmp nat_cmp (x ∷ e) (b ∷ q) ≡ slice_cmp nat_cmp e q = ap (λ (o : Ordering). ordering_then o (slice_cmp nat_cmp e q)) (cmp_same x b (sym h)) in
        let l : is_less (Some (x ∷ e)) (b ∷ q) ≡ is_less (Some e) q = ap (λ (t : Bool). if t then is_less (Some e) q else nat_lt b x) (eq_same b x h) in
        let f : is_free (left_of (Some (x ∷ e)) (b ∷ q)) ≡ is_free (left_of (Some e) q) = ap (λ (t : Bool). is_free (if t then left_of (Some e) q else None)) (eq_same b x h) in
        ap₂ (λ (s : Bool) (t : Bool). not s && t) l f ∙ later ∙ ap is_lt (sym c)
    at later (Above h) =
        let c : slice_cmp nat_cmp (x ∷ e) (b ∷ q) ≡ Less = ap (λ (o : Ordering). ordering_then o (slice_cmp nat_cmp e q)) (cmp_less x b h) in
        rw (eq_more b x h, lt_more b x h) (ap is_lt (sym c))
