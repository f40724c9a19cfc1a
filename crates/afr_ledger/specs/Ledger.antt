-- The ledger of a mount: how many numbers of changes were drawn, the unsettled changes by rising number, and the
-- history of accepted changes.
use Rattle.std.specs.Prelude.{◌≡◌, ℕ, ◌+◌, ◌≤◌, Bool, true, false, List, [], ◌∷◌, ◌++◌, length, Option, Some, None}
use Rattle.fop_types.specs.declared.history.Entry.{Entry}
use Rattle.afr_ledger.specs.declared.unsettled.Unsettled.{Unsettled}
use Rattle.afr_ledger.specs.Changes.{numbered, with_change, without}

pub record State (C : Type 0) : Type 0 where
  pub drawn : ℕ
  pub unsettled : List (ℕ × Unsettled C)
  pub history : List Entry

-- the entry that a decision makes: the effect of a change that is adopted
abbrev pub entry_of : {C : Type 0} → Bool → Option (Unsettled C) → Option Entry
entry_of false u = None
entry_of true None = None
entry_of true (Some u) = u.effect

abbrev pub with_entry : List Entry → Option Entry → List Entry
with_entry history None = history
with_entry history (Some entry) = history ++ entry ∷ []

-- the number of an entry that is put to the history's end, counted from 1
abbrev pub entry_number : List Entry → Option Entry → Option ℕ
entry_number history None = None
entry_number history (Some entry) = Some (length history + 1)

-- every unsettled change has a number that was drawn
abbrev pub AreDrawn : {C : Type 0} → ℕ → List (ℕ × Unsettled C) → Type 0
AreDrawn {C} drawn us = (n : ℕ) (u : Unsettled C) → numbered n us ≡ Some u → (1 ≤ n) × (n ≤ drawn)

module _ {C : Type 0} where
  abbrev pub empty : State C
  empty = record { drawn = 0; unsettled = []; history = [] }

  -- one number more is drawn
  abbrev pub with_number : State C → State C
  with_number ledger = record ledger { drawn = ledger.drawn + 1 }

  -- a change becomes unsettled
  abbrev pub with_begun : State C → Unsettled C → State C
  with_begun ledger u = record ledger { unsettled = with_change ledger.unsettled u }

  -- an unsettled change is decided: it is unsettled no more, and as adopted its effect, if it has one, is the next
  -- entry of the history
  abbrev pub decided : State C → ℕ → Bool → State C
  decided ledger n adopted = record ledger {
    unsettled = without n ledger.unsettled;
    history = with_entry ledger.history (entry_of adopted (numbered n ledger.unsettled));
  }
