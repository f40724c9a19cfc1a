-- The places of names: a map from names to numbers, and the same by a walk over the volumes.
use Rattle.std.specs.Prelude.{◌≡◌, ⊤, ℕ, suc, if◌then◌else◌, List, [], ◌∷◌, Option, Some, None}
use Rattle.std.specs.Option.{option_map}
use Rattle.std.specs.Map.{lookup}
use Rattle.volfile.specs.declared.volumes.Volume.{Volume}
use Rattle.volfile.specs.TextLines.{is_text}

-- names with their numbers, by rising name
abbrev pub Places : Type 0
Places = List (List ℕ × ℕ)

-- the number that a name has
abbrev pub place_in : Places → List ℕ → Option ℕ
place_in places name = lookup (is_text name) places

-- the place, from 0, of the first volume with the name
abbrev pub place_of : List ℕ → List Volume → Option ℕ
place_of name [] = None
place_of name (v ∷ vs) = if is_text name v.name then Some 0 else option_map suc (place_of name vs)

-- the open block, where there is one, has a name that no volume has
abbrev pub IsFresh : Option Volume → List Volume → Type 0
IsFresh None volumes = ⊤
IsFresh (Some v) volumes = place_of v.name volumes ≡ None
