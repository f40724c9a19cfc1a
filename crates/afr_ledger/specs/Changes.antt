-- The unsettled changes of a mount: each with its number, by rising number. A change touches cells of one set, and
-- no two unsettled changes touch one cell.
use Rattle.std.specs.Prelude.{◌≡◌, ℕ, Bool, true, false, ◌&&◌, ◌==◌, nat_le, if◌then◌else◌, List, [], ◌∷◌, Option, Some, None}
use Rattle.std.specs.List.{list_any}
use Rattle.std.specs.List.Sorted.{IsStrictlySortedBy}
use Rattle.std.specs.Map.{lookup, keys_of, remove_entry}
use Rattle.std.specs.BTreeMap.{insert_entry, is_at}
use Rattle.std.specs.declared.cmp.Ordering.{Ordering}
use Rattle.std.specs.Ordering.{is_eq, nat_cmp}
use Rattle.afr_ledger.specs.declared.unsettled.Unsettled.{Unsettled}

module _ {C : Type 0} where
  -- the change of a number
  abbrev pub numbered : ℕ → List (ℕ × Unsettled C) → Option (Unsettled C)
  numbered n us = lookup (is_at (nat_cmp n)) us

  -- with one change more, at its place by number
  abbrev pub with_change : List (ℕ × Unsettled C) → Unsettled C → List (ℕ × Unsettled C)
  with_change us u = insert_entry nat_cmp us u.change u

  -- without the change of a number
  abbrev pub without : ℕ → List (ℕ × Unsettled C) → List (ℕ × Unsettled C)
  without n us = remove_entry (is_at (nat_cmp n)) us

-- the lesser of two numbers that may be there
abbrev pub lesser : Option ℕ → Option ℕ → Option ℕ
lesser None b = b
lesser (Some a) None = Some a
lesser (Some a) (Some b) = Some (if nat_le a b then a else b)

module _ {C : Type 0} (cmp : C → C → Ordering) where
  -- the cell of set `s` is among these cells of a set
  abbrev pub covers : ℕ → List C → ℕ → C → Bool
  covers set cells s cell = (set == s) && list_any (λ c. is_eq (cmp c cell)) cells

  -- the change touches the cell of set `s`
  abbrev pub touches : ℕ → C → Unsettled C → Bool
  touches s cell u = covers u.set u.cells s cell

  -- the change touches one of the cells of set `s`
  abbrev pub touches_any : ℕ → List C → Unsettled C → Bool
  touches_any s cells u = list_any (λ c. touches s c u) cells

  -- the least number of a change that touches one of the cells of set `s`
  abbrev pub touching : ℕ → List C → List (ℕ × Unsettled C) → Option ℕ
  touching s cells [] = None
  touching s cells (e ∷ us) = if touches_any s cells e.1 then Some e.0 else touching s cells us

-- What the unsettled changes keep: their numbers rise, each is its change's own, and two that touch one cell of a set
-- are the same.
pub record AreKept {C : Type 0} (cmp : C → C → Ordering) (us : List (ℕ × Unsettled C)) : Type 0 where
  pub rising : IsStrictlySortedBy nat_cmp (keys_of us)
  pub named : (n : ℕ) (u : Unsettled C) → numbered n us ≡ Some u → u.change ≡ n
  pub apart : (n m s : ℕ) (cell : C) (u v : Unsettled C) → numbered n us ≡ Some u → numbered m us ≡ Some v
      → touches cmp s cell u ≡ true → touches cmp s cell v ≡ true → n ≡ m
