-- What copies will be: what each op and replacement in a line brings is right, or its brick is accused; so is what transactions
-- copy. Ours.
use Rattle.std.specs.Prelude.{◌≡◌, ◌<◌, ◌⊎◌, ℕ, true, false, List, [], ◌∷◌, Some}
use Rattle.fop_types.specs.StoreOps.{needs}
use Rattle.fop_types.specs.declared.cells.Cell.{Cell}
use Rattle.fop_types.specs.declared.store_ops.StoreOp.{StoreOp}
use Rattle.afr_machine.specs.Replicas.{Size, IsSize, nobody}
use Rattle.afr_machine.specs.Touching.{has_cell}
use Rattle.afr_machine.specs.Copies.{Store, Fetched}
use Rattle.afr_machine.specs.Requests.{Ask, Input}
use Rattle.afr_machine.specs.Requests.Ask.{Op, Replace}
use Rattle.afr_machine.specs.Requests.Input.{Asked, Steered}
use Rattle.afr_machine.specs.Bricks.{stored_by}
use Rattle.afr_machine.specs.Changes.{is_unsettled}
use Rattle.afr_machine.specs.Transactions.{CopyRun}
use Rattle.afr_machine.specs.Transactions.Stage.{Applying, Copying}
use Rattle.afr_machine.specs.States.{State, phase_of}
use Rattle.afr_machine.specs.Steps.{IsReached}
use Rattle.afr_laws.specs.Senders.{EachInput}
use Rattle.afr_contents.specs.Staying.{IsAccusedByMany}
use Rattle.afr_contents.specs.Good.{IsGood, IsGoodAt, IsSettledCopy}
use Rattle.afr_contents.specs.Naming.{IsSourceFor, held_by}
use Rattle.afr_contents.specs.Lasting.{IsAccusedApart}

-- ---- requests in a line

-- the change is unsettled, and the store's copies of the cells that the op needs have exactly the adopted changes
abbrev pub FindsSettled : State → Store → ℕ → StoreOp → Type 0
FindsSettled m store u op = (cell : Cell) → has_cell (needs op) cell ≡ true → (is_unsettled (m.changes u).verdict ≡ true) × IsSettledCopy m cell (store cell).copy

-- what the request brings to the replica's store is right, or the replica is accused on each cell that it changes
abbrev pub IsRightIn : Size → State → ℕ → Store → Ask → Type 0
IsRightIn size m i store (Op u op) = FindsSettled m store u op ⊎ ((cell : Cell) → has_cell (needs op) cell ≡ true → IsAccusedApart size m cell i nobody)
IsRightIn size m i store (Replace at found) = IsGood m at (Some found.copy) ⊎ IsAccusedApart size m at i nobody
IsRightIn size m i store other = Unit {0}

abbrev pub IsRightAt : Size → State → ℕ → Ask → Type 0
IsRightAt size m i ask = IsRightIn size m i (m.bricks i).store ask

-- ---- the line, walked from the front

-- at each store to which the requests of the line lead, whichever of them are served and whichever not
abbrev pub AtEachStore : (Store → Type 0) → List Input → Store → Type 0
AtEachStore P [] store = P store
AtEachStore P (Asked by ask ∷ is) store = P store × (AtEachStore P is store × AtEachStore P is (stored_by ask store))
AtEachStore P (Steered control ∷ is) store = AtEachStore P is store

-- a replica's copy is good now and as its line is served, or the replica is accused
abbrev pub CopiesStayGood : Size → State → Type 0
CopiesStayGood size m =
    (i : ℕ) → i < size.replicas → AtEachStore (λ store. (cell : Cell) → IsGood m cell (store cell).copy ⊎ IsAccusedByMany size m cell i) (m.bricks i).line (m.bricks i).store

abbrev pub EveryCopyStaysGood : Type 0
EveryCopyStaysGood = (size : Size) (m : State) → IsSize size → IsReached size m → CopiesStayGood size m

-- ---- what a transaction knows

-- the brick is held, and not out
pub record IsUsed (m : State) (t k : ℕ) : Type 0 where
  pub not_out : (m.txns t).out k ≡ false
  pub held : held_by m t k ≡ true

-- A source that it uses is good, or each replica that it uses is accused by a quorum of which it holds none; so is what it fetched.
abbrev pub SourcesGoodOrLost : Size → State → Type 0
SourcesGoodOrLost size m =
    (t s i : ℕ) (cell : Cell) → s < size.replicas → i < size.replicas → has_cell (phase_of m t).cells cell ≡ true → IsSourceFor size m t cell s → IsUsed m t s → IsUsed m t i →
    IsGoodAt m s cell ⊎ IsAccusedApart size m cell i (held_by m t)

abbrev pub FetchedGoodOrLost : Size → State → Type 0
FetchedGoodOrLost size m =
    (t i : ℕ) (run : CopyRun) (cell : Cell) (found : Fetched) → i < size.replicas → (m.txns t).stage ≡ Copying run → run.fetched cell ≡ Some found → IsUsed m t i →
    IsGood m cell (Some found.copy) ⊎ IsAccusedApart size m cell i (held_by m t)

-- a brick to which the op of an unsettled change is still to be sent has exactly the adopted changes of its cells
abbrev pub LeftAreSettled : Size → State → Type 0
LeftAreSettled size m =
    (t u k : ℕ) (cell : Cell) → k < size.replicas → (m.txns t).stage ≡ Applying u → is_unsettled (m.changes u).verdict ≡ true → (m.txns t).left k ≡ true → IsUsed m t k →
    has_cell (m.changes u).cells cell ≡ true → IsSettledCopy m cell ((m.bricks k).store cell).copy

-- ---- all of it

pub record ComesGood (size : Size) (m : State) : Type 0 where
  pub copies : (i : ℕ) (cell : Cell) → i < size.replicas → IsGoodAt m i cell ⊎ IsAccusedApart size m cell i nobody
  pub lines : (i : ℕ) → i < size.replicas → EachInput (λ by ask. IsRightAt size m i ask) (m.bricks i).line
  pub sources : SourcesGoodOrLost size m
  pub fetched : FetchedGoodOrLost size m
  pub left : LeftAreSettled size m

abbrev pub EveryStateComesGood : Type 0
EveryStateComesGood = (size : Size) (m : State) → IsSize size → IsReached size m → ComesGood size m
