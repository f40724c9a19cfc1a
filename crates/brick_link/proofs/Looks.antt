-- What two looks at a ring show.
use Rattle.std.proofs.Common.{◌≡◌, ℕ, List, ◌++◌, append_assoc, sym, ap, ◌∙◌}
use mathlib.Core.List.{IsPrefix}

pub seen_longer : (p q r : List (List ℕ)) → IsPrefix p q → IsPrefix q r → IsPrefix p r
seen_longer p q r h k = (h.0 ++ k.0, sym (append_assoc p h.0 k.0) ∙ ap (λ (z : List (List ℕ)). z ++ k.0) h.1 ∙ k.1)
