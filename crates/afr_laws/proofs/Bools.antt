-- Small facts of tests.
use Rattle.std.proofs.Common.{◌≡◌, ◌∙◌, Bool, true, false, refl, sym, ap, ◌⊎◌, inl, inr}
use Rattle.std.specs.Prelude.{not, ◌&&◌, ◌||◌}

pub or_right : (b : Bool) → (b || false) ≡ b
or_right true = refl
or_right false = refl

pub and_right : (b : Bool) → (b && true) ≡ b
and_right true = refl
and_right false = refl

pub both_left : (a b : Bool) → (a && b) ≡ true → a ≡ true
both_left true b e = refl
both_left false b e = absurd cc

pub both_right : (a b : Bool) → (a && b) ≡ true → b ≡ true
both_right true b e = e
both_right false b e = absurd cc

pub both : (a b : Bool) → a ≡ true → b ≡ true → (a && b) ≡ true
both a b p q = ap (λ x. x && b) p ∙ q

pub either_way : (a b : Bool) → (a || b) ≡ true → (a ≡ true) ⊎ (b ≡ true)
either_way true b e = inl refl
either_way false b e = inr e

pub neither_left : (a b : Bool) → (a || b) ≡ false → a ≡ false
neither_left true b e = absurd cc
neither_left false b e = refl

pub neither_right : (a b : Bool) → (a || b) ≡ false → b ≡ false
neither_right true b e = absurd cc
neither_right false b e = e

pub neither : (a b : Bool) → a ≡ false → b ≡ false → (a || b) ≡ false
neither a b p q = ap (λ x. x || b) p ∙ q

pub not_true : (b : Bool) → not b ≡ true → b ≡ false
not_true true e = absurd cc
not_true false e = refl

pub not_false : {b : Bool} → b ≡ false → not b ≡ true
not_false e = ap not e

pub apart_bools : {A : Type 0} {b : Bool} → b ≡ true → b ≡ false → A
apart_bools p q = absurd (let e : true ≡ false = sym p ∙ q in cc)

pub is_or_not : (b : Bool) → (b ≡ true) ⊎ (b ≡ false)
is_or_not true = inl refl
is_or_not false = inr refl

pub or_left : (a b : Bool) → a ≡ true → (a || b) ≡ true
or_left a b h = ap (λ x. x || b) h

pub or_last : (a b : Bool) → b ≡ true → (a || b) ≡ true
or_last true b h = refl
or_last false b h = h
