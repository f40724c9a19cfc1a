-- Where the new plan has too few sets.
use Rattle.std.proofs.Common.{◌≡◌, ℕ, zero, suc, ◌<◌, ◌≤◌, Bool, false, List, [], ◌∷◌, length, drop, refl, sym, ap, ◌∙◌, arith}
use Rattle.std.proofs.lemmas.List.{drop_all}
use Rattle.graph_build.specs.Follows.{sets_follow}
use Rattle.fop_types.specs.declared.jobs.SetPlan.{SetPlan}

one_more : (xs : List SetPlan) (i : ℕ) → i < length xs → (x : SetPlan) × (rest : List SetPlan) × (drop i xs ≡ x ∷ rest)
one_more [] i h = absurd (omega (arith, h))
one_more (x ∷ xs) zero h = (x, xs, refl)
one_more (x ∷ xs) (suc i) h = one_more xs i (omega (arith, h))

pub too_short : (old before after : List SetPlan) (i : ℕ) (r : Bool) → i < length before → length after ≤ i → sets_follow old (drop i before) (drop i after) ≡ r → false ≡ r
too_short old before after i r more less whole =
    let m = one_more before i more in
    ap (λ l. sets_follow old l []) (sym m.2) ∙ ap (sets_follow old (drop i before)) (sym (drop_all i after less)) ∙ whole
