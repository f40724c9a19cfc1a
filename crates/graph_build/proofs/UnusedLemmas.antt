-- The first volume that none uses, place by place.
use Rattle.std.proofs.Common.{◌≡◌, ℕ, zero, suc, ◌+◌, ◌<◌, ◌≤◌, true, false, cond, List, [], ◌∷◌, length, drop, Option, Some, None, refl, sym, ap, ◌∙◌, arith}
use Rattle.graph_build.specs.PlanRules.{is_used, unused_from}
use Rattle.graph_build.specs.declared.infos.Info.{Info}

two_more : (xs : List Info) (i : ℕ) → i + 1 < length xs → (a : Info) × (b : Info) × (rest : List Info) × (drop i xs ≡ a ∷ b ∷ rest) × (drop (i + 1) xs ≡ b ∷ rest)
two_more [] i h = absurd (omega (arith, h))
two_more (a ∷ []) zero h = absurd (omega (arith, h))
two_more (a ∷ b ∷ rest) zero h = (a, b, rest, refl, refl)
two_more (x ∷ xs) (suc i) h =
    let more = two_more xs i (omega (arith, h)) in
    let place : suc i + 1 ≡ suc (i + 1) = omega arith in
    (more.0, more.1, more.2, more.3, ap (λ k. drop k (x ∷ xs)) place ∙ more.4)

pub unused_on : (infos xs : List Info) (i : ℕ) (r : Option ℕ) → i + 1 < length xs → is_used infos i ≡ true → unused_from infos (drop i xs) i ≡ r → unused_from infos (drop (i + 1) xs) (i + 1) ≡ r
unused_on infos xs i r h is whole =
    let m = two_more xs i h in
    ap (λ l. unused_from infos l (i + 1)) m.4 ∙ ap (λ t. cond t (unused_from infos (m.1 ∷ m.2) (i + 1)) (Some i)) (sym is) ∙ ap (λ l. unused_from infos l i) (sym m.3) ∙ whole

pub unused_here : (infos xs : List Info) (i : ℕ) (r : Option ℕ) → i + 1 < length xs → is_used infos i ≡ false → unused_from infos (drop i xs) i ≡ r → Some i ≡ r
unused_here infos xs i r h is whole =
    let m = two_more xs i h in
    ap (λ t. cond t (unused_from infos (m.1 ∷ m.2) (i + 1)) (Some i)) (sym is) ∙ ap (λ l. unused_from infos l i) (sym m.3) ∙ whole

last_none : (infos xs : List Info) (i k : ℕ) → length xs ≤ i + 1 → unused_from infos (drop i xs) k ≡ None
last_none infos [] zero k h = refl
last_none infos [] (suc i) k h = refl
last_none infos (a ∷ []) zero k h = refl
last_none infos (a ∷ b ∷ rest) zero k h = absurd (omega (arith, h))
last_none infos (x ∷ xs) (suc i) k h = last_none infos xs i k (omega (arith, h))

pub unused_end : (infos xs : List Info) (i : ℕ) (r : Option ℕ) → length xs ≤ i + 1 → unused_from infos (drop i xs) i ≡ r → None ≡ r
unused_end infos xs i r h whole = sym (last_none infos xs i i h) ∙ whole
