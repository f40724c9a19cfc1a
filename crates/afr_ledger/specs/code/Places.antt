-- The places by which the ledger finds an unsettled change from a cell: at each cell of a set the number of the
-- change that touches it.
use Rattle.std.specs.Prelude.{◌≡◌, ℕ, Bool, false, ◌==◌, List, Option, Some, None}
use Rattle.std.specs.Map.{keys_of}
use Rattle.std.specs.List.Sorted.{IsStrictlySortedBy}
use Rattle.std.specs.BTreeMap.{BTreeMap, get}
use Rattle.std.specs.declared.cmp.Ordering.{Ordering}
use Rattle.std.specs.Ordering.{nat_cmp, ordering_then}
use Rattle.afr_ledger.specs.declared.place.Place.{Place}
use Rattle.afr_ledger.specs.declared.unsettled.Unsettled.{Unsettled}
use Rattle.afr_ledger.specs.Changes.{numbered, touches}

-- whether a number that may be there is this one
abbrev pub is_number : ℕ → Option ℕ → Bool
is_number n None = false
is_number n (Some m) = m == n

module _ {C : Type 0} (cmp : C → C → Ordering) where
  -- places go by set and then by cell
  abbrev pub place_cmp : Place C → Place C → Ordering
  place_cmp p q = ordering_then (nat_cmp p.set q.set) (cmp p.cell q.cell)

  -- the number that is entered at a cell of a set
  abbrev pub owner : BTreeMap (Place C) ℕ → ℕ → C → Option ℕ
  owner places set cell = get place_cmp places (record { set = set; cell = cell })

  -- whether a change that may be there touches the cell of a set
  abbrev pub touched : ℕ → C → Option (Unsettled C) → Bool
  touched set cell None = false
  touched set cell (Some u) = touches cmp set cell u

-- A number is entered at a cell exactly where the unsettled change of that number touches it; the numbers rise, and
-- each is its change's own.
pub record IsWhole {C : Type 0} (cmp : C → C → Ordering) (us : List (ℕ × Unsettled C)) (places : BTreeMap (Place C) ℕ) : Type 0 where
  pub rising : IsStrictlySortedBy nat_cmp (keys_of us)
  pub named : (n : ℕ) (u : Unsettled C) → numbered n us ≡ Some u → u.change ≡ n
  pub entered : (n set : ℕ) (cell : C) → is_number n (owner cmp places set cell) ≡ touched cmp set cell (numbered n us)
