-- The adopted changes of a cell, and the content that they leave. Ours.
use Rattle.std.specs.Prelude.{◌≡◌, ℕ, zero, suc, true, List, [], ◌∷◌, Option, Some, None, is_some, if◌then◌else◌}
use Rattle.fop_types.specs.StoreOps.{Contents}
use Rattle.fop_types.specs.declared.cells.Cell.{Cell}
use Rattle.fop_types.specs.declared.contents.Content.{Content}
use Rattle.afr_machine.specs.Replicas.{Size}
use Rattle.afr_machine.specs.Touching.{has_cell}
use Rattle.afr_machine.specs.Changes.{Change, is_unsettled, is_adopted_on}
use Rattle.afr_machine.specs.States.{State}
use Rattle.afr_machine.specs.Steps.{IsReached}

-- those of the first n numbers, the latest first
abbrev pub adopted_below : (ℕ → Change) → ℕ → Cell → List ℕ
adopted_below changes zero cell = []
adopted_below changes (suc u) cell = if is_adopted_on (changes (suc u)) cell then suc u ∷ adopted_below changes u cell else adopted_below changes u cell

abbrev pub adopted_on : State → Cell → List ℕ
adopted_on m cell = adopted_below m.changes m.drawn cell

abbrev pub first_of : Option Content → Option Content → Option Content
first_of None second = second
first_of (Some content) second = Some content

-- the content that is adopted, or that the cell was born with while its birth is not adopted yet
abbrev pub settled : State → Contents
settled m cell = first_of (m.adopted cell) (m.born cell)

-- an unsettled change is of cells whose birth is adopted
abbrev pub ChangesOfAdopted : State → Type 0
ChangesOfAdopted m = (u : ℕ) (cell : Cell) → is_unsettled (m.changes u).verdict ≡ true → has_cell (m.changes u).cells cell ≡ true → is_some (m.adopted cell) ≡ true

abbrev pub EveryChangeIsOfAdopted : Type 0
EveryChangeIsOfAdopted = (size : Size) (m : State) → IsReached size m → ChangesOfAdopted m

-- a cell without adopted changes has the content that it was born with, once its birth is adopted
abbrev pub AdoptedAsBorn : State → Type 0
AdoptedAsBorn m = (cell : Cell) (content : Content) → adopted_on m cell ≡ [] → m.adopted cell ≡ Some content → m.born cell ≡ Some content

abbrev pub EveryAdoptedIsAsBorn : Type 0
EveryAdoptedIsAsBorn = (size : Size) (m : State) → IsReached size m → AdoptedAsBorn m
