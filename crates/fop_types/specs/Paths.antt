-- Paths by their components: the last one, and those before it, which lead to its parent.
use Rattle.std.specs.Prelude.{ℕ, List, [], ◌∷◌}

abbrev pub last_part : List (List ℕ) → List ℕ
last_part [] = []
last_part (part ∷ []) = part
last_part (part ∷ other ∷ parts) = last_part (other ∷ parts)

abbrev pub parent_parts : List (List ℕ) → List (List ℕ)
parent_parts [] = []
parent_parts (part ∷ []) = []
parent_parts (part ∷ other ∷ parts) = part ∷ parent_parts (other ∷ parts)
