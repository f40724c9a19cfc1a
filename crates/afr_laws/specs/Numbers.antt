-- What the numbers of changes tell, of every state: about one cell and one brick. Ours.
use Rattle.std.specs.Prelude.{◌≡◌, ◌≢◌, ◌↔◌, ℕ, true, false, List, []}
use Rattle.fop_types.specs.StoreOps.{needs}
use Rattle.fop_types.specs.declared.cells.Cell.{Cell}
use Rattle.fop_types.specs.declared.store_ops.StoreOp.{StoreOp}
use Rattle.afr_machine.specs.Replicas.{Size}
use Rattle.afr_machine.specs.Touching.{has_cell}
use Rattle.afr_machine.specs.Copies.{changes_of, has_change}
use Rattle.afr_machine.specs.Requests.{Ask}
use Rattle.afr_machine.specs.Requests.Ask.{Op}
use Rattle.afr_machine.specs.Changes.{is_unsettled}
use Rattle.afr_machine.specs.Transactions.Stage.{Marking}
use Rattle.afr_machine.specs.States.{State}
use Rattle.afr_machine.specs.Steps.{IsReached}
use Rattle.afr_laws.specs.Senders.{EachInput}
use Rattle.afr_laws.specs.OwnChanges.{ChangesAreOwn}
use Rattle.afr_laws.specs.Newest.{NumbersRise}
use Rattle.afr_laws.specs.Copies.{AreUpTo, IsOpOf, LineRises, CopiesAreOfChanges}

-- the changes in a brick's copy of a cell, and the number that its row names as the last
abbrev pub applied : State → ℕ → Cell → List ℕ
applied m k cell = changes_of ((m.bricks k).store cell).copy

abbrev pub last_at : State → ℕ → Cell → ℕ
last_at m k cell = ((m.bricks k).store cell).last

-- a number whose mark is being asked is in no copy, and is no last change
abbrev pub MarkedIsNewest : State → Type 0
MarkedIsNewest m = (t u k : ℕ) (cell : Cell) → (m.txns t).stage ≡ Marking u → (has_change (applied m k cell) u ≡ false) × (last_at m k cell ≢ u)

-- where a copy has changes, the last is the greatest of them
abbrev pub LastIsGreatest : State → Type 0
LastIsGreatest m = (k : ℕ) (cell : Cell) → applied m k cell ≢ [] → (has_change (applied m k cell) (last_at m k cell) ≡ true) × AreUpTo (last_at m k cell) (applied m k cell)

-- an unsettled change that touches the cell: no copy has a greater one, and the row says whether the copy has this one
pub record LastTellsOf (m : State) (u k : ℕ) (cell : Cell) : Type 0 where
  pub newest : AreUpTo u (applied m k cell)
  pub tells : last_at m k cell ≡ u ↔ has_change (applied m k cell) u ≡ true

abbrev pub LastTells : State → Type 0
LastTells m = (u k : ℕ) (cell : Cell) → is_unsettled (m.changes u).verdict ≡ true → has_cell (m.changes u).cells cell ≡ true → LastTellsOf m u k cell

-- An op on its way to a brick is that of a change that became unsettled once, or of a birth; the copies of its cells have
-- no greater change.
pub record OpIsNextOf (m : State) (k u : ℕ) (op : StoreOp) : Type 0 where
  pub of_change : IsOpOf m.changes u op
  pub next : (cell : Cell) → has_cell (needs op) cell ≡ true → AreUpTo u (applied m k cell)

abbrev pub IsNextAt : State → ℕ → Ask → Type 0
IsNextAt m k (Op u op) = OpIsNextOf m k u op
IsNextAt m k other = Unit {0}

-- so is each op in a line, and those over one cell rise
abbrev pub OpIsNext : State → Type 0
OpIsNext m = (k : ℕ) → EachInput (λ by ask. IsNextAt m k ask) (m.bricks k).line × LineRises (m.bricks k).line

pub record KeepsNumbers (m : State) : Type 0 where
  pub own : ChangesAreOwn m
  pub rise : NumbersRise m
  pub copies : CopiesAreOfChanges m
  pub marked : MarkedIsNewest m
  pub greatest : LastIsGreatest m
  pub tells : LastTells m
  pub next : OpIsNext m

abbrev pub EveryStateKeepsNumbers : Type 0
EveryStateKeepsNumbers = (size : Size) (m : State) → IsReached size m → KeepsNumbers m
