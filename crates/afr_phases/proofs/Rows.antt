-- Five pieces put to a list's end, one after another.
use Rattle.std.proofs.Common.{◌≡◌, List, ◌++◌, ◌∙◌, ap}
use Rattle.std.proofs.lemmas.List.{append_assoc}

pub five_pieces : {A : Type 0} (x a b c d e : List A) (p q r s t : List A) → a ≡ x ++ p → b ≡ a ++ q → c ≡ b ++ r → d ≡ c ++ s → e ≡ d ++ t → e ≡ x ++ (p ++ (q ++ (r ++ (s ++ t))))
five_pieces x a b c d e p q r s t h i j k l =
    l ∙ ap (λ y. y ++ t) (k ∙ ap (λ y. y ++ s) (j ∙ ap (λ y. y ++ r) (i ∙ ap (λ y. y ++ q) h))) ∙ simp append_assoc
