-- The orders of keys and places are total and tell all of them apart, so the places of one key stand
-- together.
use Rattle.std.proofs.Common.{◌≡◌, ℕ, ◌≤◌, Bool, true, false, ◌&&◌, ◌==◌, refl, sym, ap, ◌∙◌, arith, subst}
use Rattle.std.specs.declared.cmp.Ordering.{Ordering}
use Rattle.std.specs.declared.cmp.Ordering.TheVariants.{Less, Equal, Greater}
use Rattle.std.specs.Ordering.{nat_cmp, ordering_then, is_eq, is_gt, ordering_reverse}
use Rattle.std.specs.Cmp.{IsTotalOrder, then_total, on_total, nat_cmp_total}
use Rattle.std.proofs.lemmas.Map.Lookups.{CmpEqualImpliesEq, exact_pairs, exact_unsigned}
use Rattle.std.proofs.lemmas.Cmp.{tied_itself}
use Rattle.std.proofs.lemmas.Map.Keys.{le_from_not_gt}
use Rattle.queue_index.specs.declared.key.Key.{Key}
use Rattle.queue_index.specs.declared.place.Place.{Place}
use Rattle.queue_index.specs.Places.{is_key, key_cmp, place_cmp, place}

pub key_total : IsTotalOrder key_cmp
key_total = then_total (on_total (λ (k : Key). k.kind) nat_cmp_total) (then_total (on_total (λ (k : Key). k.hi) nat_cmp_total) (then_total (on_total (λ (k : Key). k.lo) nat_cmp_total) (on_total (λ (k : Key). k.mode) nat_cmp_total)))

pub place_total : IsTotalOrder place_cmp
place_total = then_total (on_total (λ (p : Place). p.key) key_total) (on_total (λ (p : Place). p.number) nat_cmp_total)

eq_then : (a b : Ordering) → is_eq (ordering_then a b) ≡ (is_eq a && is_eq b)
eq_then Less b = refl
eq_then Equal b = refl
eq_then Greater b = refl

eq_nat : (a b : ℕ) → is_eq (nat_cmp a b) ≡ (a == b)
eq_nat a b = grind (arith)

pub same_key : (a b : Key) → is_eq (key_cmp a b) ≡ is_key a b
same_key a b =
    eq_then (nat_cmp a.kind b.kind) _
    ∙ ap (λ (t : Bool). t && is_eq (ordering_then (nat_cmp a.hi b.hi) (ordering_then (nat_cmp a.lo b.lo) (nat_cmp a.mode b.mode)))) (eq_nat a.kind b.kind)
    ∙ ap (λ (t : Bool). (a.kind == b.kind) && t) (eq_then (nat_cmp a.hi b.hi) _ ∙ ap (λ (t : Bool). t && is_eq (ordering_then (nat_cmp a.lo b.lo) (nat_cmp a.mode b.mode))) (eq_nat a.hi b.hi))
    ∙ ap (λ (t : Bool). (a.kind == b.kind) && ((a.hi == b.hi) && t)) (eq_then (nat_cmp a.lo b.lo) (nat_cmp a.mode b.mode) ∙ ap (λ (t : Bool). t && is_eq (nat_cmp a.mode b.mode)) (eq_nat a.lo b.lo))
    ∙ ap (λ (t : Bool). (a.kind == b.kind) && ((a.hi == b.hi) && ((a.lo == b.lo) && t))) (eq_nat a.mode b.mode)

pub same_place : (p q : Place) → is_eq (place_cmp p q) ≡ (is_key p.key q.key && (p.number == q.number))
same_place p q = eq_then (key_cmp p.key q.key) (nat_cmp p.number q.number) ∙ ap (λ (t : Bool). t && is_eq (nat_cmp p.number q.number)) (same_key p.key q.key) ∙ ap (λ (t : Bool). is_key p.key q.key && t) (eq_nat p.number q.number)

pub key_exact : CmpEqualImpliesEq key_cmp
key_exact a b h =
    let made : ℕ × (ℕ × (ℕ × ℕ)) → Key = λ p. record { kind = p.0; hi = p.1.0; lo = p.1.1.0; mode = p.1.1.1 } in
    let two : CmpEqualImpliesEq (λ (x y : ℕ × ℕ). ordering_then (nat_cmp x.0 y.0) (nat_cmp x.1 y.1)) = exact_pairs nat_cmp nat_cmp exact_unsigned exact_unsigned in
    let three : CmpEqualImpliesEq (λ (x y : ℕ × (ℕ × ℕ)). ordering_then (nat_cmp x.0 y.0) (ordering_then (nat_cmp x.1.0 y.1.0) (nat_cmp x.1.1 y.1.1))) = exact_pairs nat_cmp (λ (x y : ℕ × ℕ). ordering_then (nat_cmp x.0 y.0) (nat_cmp x.1 y.1)) exact_unsigned two in
    ap made (exact_pairs nat_cmp (λ (x y : ℕ × (ℕ × ℕ)). ordering_then (nat_cmp x.0 y.0) (ordering_then (nat_cmp x.1.0 y.1.0) (nat_cmp x.1.1 y.1.1))) exact_unsigned three (a.kind, (a.hi, (a.lo, a.mode))) (b.kind, (b.hi, (b.lo, b.mode))) h)

-- a place between two of one key is of that key
between : (r s a b : Ordering) → s ≡ ordering_reverse r → is_gt (ordering_then r a) ≡ false → is_gt (ordering_then s b) ≡ false → r ≡ Equal
between Less s a b h low high = absurd (let t : is_gt (ordering_then Greater b) ≡ false = subst (λ (x : Ordering). is_gt (ordering_then x b) ≡ false) h high in cc)
between Equal s a b h low high = refl
between Greater s a b h low high = absurd cc

pub of_the_key : (k : Key) (m n : ℕ) (p : Place) → is_gt (place_cmp (place k m) p) ≡ false → is_gt (place_cmp p (place k n)) ≡ false → k ≡ p.key
of_the_key k m n p low high = key_exact k p.key (between (key_cmp k p.key) (key_cmp p.key k) (nat_cmp m p.number) (nat_cmp p.number n) (key_total.antisymm p.key k) low high)

eq_is : (r : Ordering) → is_eq r ≡ true → r ≡ Equal
eq_is Less h = absurd cc
eq_is Equal h = refl
eq_is Greater h = absurd cc

pub key_is : (a b : Key) → is_key a b ≡ true → a ≡ b
key_is a b h = key_exact a b (eq_is (key_cmp a b) (same_key a b ∙ h))

pub key_itself : (k : Key) → is_key k k ≡ true
key_itself k = sym (same_key k k) ∙ ap is_eq (tied_itself key_total k)

then_itself : (k : Key) (o : Ordering) → ordering_then (key_cmp k k) o ≡ o
then_itself k o = ap (λ (t : Ordering). ordering_then t o) (tied_itself key_total k)

le_not_gt : (m n : ℕ) → m ≤ n → is_gt (nat_cmp m n) ≡ false
le_not_gt m n h = grind (arith)

pub at_or_after : (k : Key) (m n : ℕ) → m ≤ n → is_gt (place_cmp (place k m) (place k n)) ≡ false
at_or_after k m n h = ap is_gt (then_itself k (nat_cmp m n)) ∙ le_not_gt m n h

pub number_after : (k : Key) (m n : ℕ) → is_gt (place_cmp (place k m) (place k n)) ≡ false → m ≤ n
number_after k m n h = le_from_not_gt m n (sym (ap is_gt (then_itself k (nat_cmp m n))) ∙ h)
