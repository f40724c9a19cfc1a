-- The places of a call: the lengths of the history at which its fops read, and the numbers of its entries. Ours.
use Rattle.std.specs.Prelude.{ℕ, ◌≤◌, List, [], ◌∷◌, length}
use Rattle.mount_laws.specs.States.{State}

-- numbers that do not fall, none below the first bound and none above the second
abbrev pub RiseWithin : ℕ → List ℕ → ℕ → Type 0
RiseWithin least [] most = least ≤ most
RiseWithin least (place ∷ places) most = (least ≤ place) × RiseWithin place places most

-- The places of a call do not fall: the first is at least the length of the history at the call's submission, the last at most
-- its length now.
abbrev pub PlacesFixed : State → Type 0
PlacesFixed m = (c : ℕ) → RiseWithin (m.since c) (m.places c) (length m.history)
