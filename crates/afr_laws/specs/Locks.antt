-- Facts of the locks that a brick holds. Ours.
use Rattle.std.specs.Prelude.{◌≡◌, ℕ, false, List, [], ◌∷◌, ◌++◌}
use Rattle.afr_machine.specs.Locks.{BrickLock, conflicts_among}
use Rattle.afr_machine.specs.States.{State}

-- no lock conflicts with one before it
abbrev pub AreApartFrom : List BrickLock → List BrickLock → Type 0
AreApartFrom before [] = Unit {0}
AreApartFrom before (l ∷ ls) = (conflicts_among before l ≡ false) × AreApartFrom (before ++ l ∷ []) ls

-- no two held locks of a brick conflict
abbrev pub HeldApart : State → Type 0
HeldApart m = (k : ℕ) → AreApartFrom [] (m.bricks k).held
