-- A list with one item replaced is what stands before it, the new item, and what stands after it.
use Rattle.std.proofs.Common.{◌≡◌, ◌<◌, ℕ, List, ◌∷◌, ◌++◌, length, take, drop, suc}
use Rattle.std.specs.List.{slice_set}
use Rattle.std.proofs.lemmas.List.{set_split}

pub set_parts : {X : Type 0} → (xs : List X) (i : ℕ) (x : X) → i < length xs → slice_set xs i x ≡ take i xs ++ x ∷ drop (suc i) xs
set_parts xs i x fits = set_split xs i x fits
