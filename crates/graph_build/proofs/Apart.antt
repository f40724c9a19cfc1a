-- Lists of which no two items are the same.
use Rattle.std.proofs.Common.{◌≡◌, ℕ, ◌==◌, ◌||◌, Bool, true, false, List, [], ◌∷◌, ◌++◌, flat_map, refl, sym, ap, ◌∙◌, arith}
use Rattle.std.specs.Prelude.{⊤}
use Rattle.std.specs.List.{AllByRecursion, IsDistinct}
use Rattle.std.proofs.lemmas.Bool.Decides.{nat_tests}
use Rattle.graph_build.specs.PlanRules.{has_place, repeats}

abbrev pub Apart : {A : Type 0} → List A → Type 0
Apart [] = ⊤
Apart (x ∷ xs) = AllByRecursion (λ y. x ≡ y → ⊥) xs × Apart xs

pub all_map : {A : Type 0} (P Q : A → Type 0) (xs : List A) → ((x : A) → P x → Q x) → AllByRecursion P xs → AllByRecursion Q xs
all_map P Q [] leads h = tt
all_map P Q (x ∷ xs) leads h = (leads x h.0, all_map P Q xs leads h.1)

pub all_zip : {A : Type 0} (P Q R : A → Type 0) (xs : List A) → ((x : A) → P x → Q x → R x) → AllByRecursion P xs → AllByRecursion Q xs → AllByRecursion R xs
all_zip P Q R [] leads h k = tt
all_zip P Q R (x ∷ xs) leads h k = (leads x h.0 k.0, all_zip P Q R xs leads h.1 k.1)

pub all_append : {A : Type 0} (P : A → Type 0) (xs ys : List A) → AllByRecursion P xs → AllByRecursion P ys → AllByRecursion P (xs ++ ys)
all_append P [] ys h k = k
all_append P (x ∷ xs) ys h k = (h.0, all_append P xs ys h.1 k)

pub apart_append : {A : Type 0} (xs ys : List A) → Apart xs → Apart ys → AllByRecursion (λ x. AllByRecursion (λ y. x ≡ y → ⊥) ys) xs → Apart (xs ++ ys)
apart_append [] ys h k cross = k
apart_append (x ∷ xs) ys h k cross = (all_append (λ y. x ≡ y → ⊥) xs ys h.0 cross.0, apart_append xs ys h.1 k cross.1)

-- ---- lists that belong to different owners
pub all_flat : {A B : Type 0} (P : B → Type 0) (f : A → List B) (ps : List A) → AllByRecursion (λ p. AllByRecursion P (f p)) ps → AllByRecursion P (flat_map f ps)
all_flat P f [] h = tt
all_flat P f (p ∷ ps) h = all_append P (f p) (flat_map f ps) h.0 (all_flat P f ps h.1)

pub apart_flat : (f : ℕ → List ℕ) (own : ℕ → ℕ) (ps : List ℕ) → Apart ps → AllByRecursion (λ p. AllByRecursion (λ c. own c ≡ p) (f p)) ps → AllByRecursion (λ p. Apart (f p)) ps → Apart (flat_map f ps)
apart_flat f own [] apart owned each = tt
apart_flat f own (p ∷ ps) apart owned each =
    let others : AllByRecursion (λ q. AllByRecursion (λ y. own y ≡ p → ⊥) (f q)) ps =
    all_zip (λ q. p ≡ q → ⊥) (λ q. AllByRecursion (λ c. own c ≡ q) (f q)) (λ q. AllByRecursion (λ y. own y ≡ p → ⊥) (f q)) ps
    (λ q no all. all_map (λ c. own c ≡ q) (λ y. own y ≡ p → ⊥) (f q) (λ y is here. no (sym here ∙ is)) all) apart.0 owned.1 in
    let rest : AllByRecursion (λ y. own y ≡ p → ⊥) (flat_map f ps) = all_flat (λ y. own y ≡ p → ⊥) f ps others in
    apart_append (f p) (flat_map f ps) each.0 (apart_flat f own ps apart.1 owned.1 each.1)
    (all_map (λ c. own c ≡ p) (λ x. AllByRecursion (λ y. x ≡ y → ⊥) (flat_map f ps)) (f p)
    (λ x is. all_map (λ y. own y ≡ p → ⊥) (λ y. x ≡ y → ⊥) (flat_map f ps) (λ y no same. no (ap own (sym same) ∙ is)) rest) owned.0)

-- ---- what is made item by item
abbrev pub mapped : {A B : Type 0} → (A → B) → List A → List B
mapped g [] = []
mapped g (x ∷ xs) = g x ∷ mapped g xs

pub all_mapped : {A B : Type 0} (P : A → Type 0) (Q : B → Type 0) (g : A → B) (xs : List A) → ((x : A) → P x → Q (g x)) → AllByRecursion P xs → AllByRecursion Q (mapped g xs)
all_mapped P Q g [] leads h = tt
all_mapped P Q g (x ∷ xs) leads h = (leads x h.0, all_mapped P Q g xs leads h.1)

pub apart_mapped : {A B : Type 0} (P : A → Type 0) (g : A → B) (xs : List A) → ((x y : A) → P x → P y → g x ≡ g y → x ≡ y) → AllByRecursion P xs → Apart xs → Apart (mapped g xs)
apart_mapped P g [] one all apart = tt
apart_mapped P g (x ∷ xs) one all apart =
    (differ xs all.1 apart.0, apart_mapped P g xs one all.1 apart.1)
  where
    differ : (ys : List _) → AllByRecursion P ys → AllByRecursion (λ y. x ≡ y → ⊥) ys → AllByRecursion (λ z. g x ≡ z → ⊥) (mapped g ys)
    differ [] h off = tt
    differ (y ∷ ys) h off = (λ same. off.0 (one x y all.0 h.0 same), differ ys h.1 off.1)

-- ---- the tests of `IsDistinct`
pub distinct_from : {A : Type 0} (e : A → A → Bool) → ((x y : A) → e x y ≡ true → x ≡ y) → (xs : List A) → Apart xs → IsDistinct e xs
unfolding IsDistinct
distinct_from e exact [] h = tt
distinct_from e exact (x ∷ xs) h = (all_map (λ y. x ≡ y → ⊥) (λ y. e x y ≡ false) xs (λ y no. off (e x y) refl no (exact x y)) h.0, distinct_from e exact xs h.1)
  where
    off : {X : Type 0} (b : Bool) → {t : Bool} → t ≡ b → (X → ⊥) → (t ≡ true → X) → t ≡ false
    off true is never so = absurd (never (so is))
    off false is never so = is

-- ---- places that no list repeats
or_off : (a b : Bool) → (a || b) ≡ false → (a ≡ false) × (b ≡ false)
or_off true b e = absurd cc
or_off false b e = (refl, e)

pub unlike : (p q : ℕ) → (q == p) ≡ false → p ≡ q → ⊥
unlike p q off same = let on : (q == p) ≡ true = grind (arith, nat_tests) in absurd cc

pub none_repeats : (test : ℕ → Bool) (ps : List ℕ) → repeats test ps ≡ false → AllByRecursion (λ p. test p ≡ false) ps × Apart ps
none_repeats test [] e = (tt, tt)
none_repeats test (p ∷ ps) e =
    let parts = or_off (test p) (repeats (λ q. (q == p) || test q) ps) e in
    let rest = none_repeats (λ q. (q == p) || test q) ps parts.1 in (
      (parts.0, all_map (λ q. ((q == p) || test q) ≡ false) (λ q. test q ≡ false) ps (λ q h. (or_off (q == p) (test q) h).1) rest.0),
      (all_map (λ q. ((q == p) || test q) ≡ false) (λ q. p ≡ q → ⊥) ps (λ q h. unlike p q (or_off (q == p) (test q) h).0) rest.0, rest.1),
    )

pub first_placed : (p : ℕ) (ps : List ℕ) → has_place p (p ∷ ps) ≡ true
first_placed p ps = let on : (p == p) ≡ true = grind (arith, nat_tests) in ap (λ b. b || has_place p ps) on

pub or_right : (a b : Bool) → b ≡ true → (a || b) ≡ true
or_right true b e = refl
or_right false b e = e

pub placed : (ps : List ℕ) → AllByRecursion (λ p. has_place p ps ≡ true) ps
placed [] = tt
placed (p ∷ ps) = (first_placed p ps, all_map (λ q. has_place q ps ≡ true) (λ q. has_place q (p ∷ ps) ≡ true) ps (λ q h. or_right (q == p) (has_place q ps) h) (placed ps))
