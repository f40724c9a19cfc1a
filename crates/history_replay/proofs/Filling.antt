-- Lists of one value, which grow.
use Rattle.std.proofs.Common.{◌≡◌, ◌∷◌, ◌++◌, ap, ◌∙◌, ℕ, ◌+◌, List, [], replicate}
use Rattle.std.proofs.lemmas.List.{replicate_more}

pub filled_next : {A : Type 0} (items : List A) (n : ℕ) (value item : A) → items ≡ replicate n value → item ≡ value → items ++ item ∷ [] ≡ replicate (n + 1) value
filled_next {A} items n value item so_far is =
    ap (λ (l : List A). l ++ item ∷ []) so_far ∙ ap (λ (x : A). replicate n value ++ x ∷ []) is ∙ replicate_more n value
