-- An item or none, before others.
use Rattle.std.specs.Prelude.{List, ◌∷◌, Option, None, Some}

abbrev pub behind : {X : Type 0} → Option X → List X → List X
behind None rest = rest
behind (Some x) rest = x ∷ rest
