-- Cells that count as present: a content of each is adopted, of its aspect, and a quorum has a copy of it. Ours.
use Rattle.std.specs.Prelude.{◌≡◌, ◌<◌, ◌≤◌, ℕ, true, is_some}
use Rattle.fop_types.specs.StoreOps.{births, holds}
use Rattle.fop_types.specs.Jobs.{cells_of}
use Rattle.fop_types.specs.declared.cells.Cell.{Cell}
use Rattle.afr_machine.specs.Replicas.{Size, IsSize, count}
use Rattle.afr_machine.specs.Touching.{has_cell}
use Rattle.afr_machine.specs.Changes.{is_unsettled}
use Rattle.afr_machine.specs.Changes.Verdict.{Adopted}
use Rattle.afr_machine.specs.Copies.{Store, rows_of, has_change}
use Rattle.afr_machine.specs.Requests.{Ask}
use Rattle.afr_machine.specs.Requests.Ask.{Op}
use Rattle.afr_machine.specs.Requests.Answer.{Done}
use Rattle.afr_machine.specs.Transactions.{cells_of_job}
use Rattle.afr_machine.specs.Transactions.Stage.{Bearing}
use Rattle.afr_machine.specs.States.{State}
use Rattle.afr_machine.specs.Steps.{IsReached}
use Rattle.afr_laws.specs.Numbers.{applied}
use Rattle.afr_soundness.specs.Replaced.{HasCopy}
use Rattle.afr_soundness.specs.Replies.{EachReply}
use Rattle.afr_contents.specs.Present.{having}

-- the cells to which the op gives birth have copies
abbrev pub ShowsBorn : Store → Ask → Type 0
ShowsBorn store (Op u op) = (cell : Cell) → has_cell (cells_of (births op)) cell ≡ true → (rows_of store cell).present ≡ true
ShowsBorn store other = Unit {0}

-- where the answer Done to an op is on its way, and where a birth was confirmed; a content of the cells of a birth is adopted
pub record BornHaveCopies (m : State) : Type 0 where
  pub replies : (k : ℕ) → EachReply (λ by ask answer. answer ≡ Done → ShowsBorn (m.bricks k).store ask) (m.bricks k).outputs
  pub confirmed : (t k : ℕ) → (m.txns t).stage ≡ Bearing → (m.txns t).confirmed k ≡ true → (cell : Cell) → has_cell (cells_of_job (m.txns t).job) cell ≡ true → HasCopy m k cell
  pub adopted : (t : ℕ) → (m.txns t).stage ≡ Bearing → (cell : Cell) → has_cell (cells_of_job (m.txns t).job) cell ≡ true → is_some (m.adopted cell) ≡ true

abbrev pub EveryBornHasCopies : Type 0
EveryBornHasCopies = (size : Size) (m : State) → IsReached size m → BornHaveCopies m

pub record FirmIsPresent (size : Size) (m : State) : Type 0 where
  pub adopted : (cell : Cell) → m.firm cell ≡ true → holds cell.aspect (m.adopted cell) ≡ true
  pub copies : (cell : Cell) → m.firm cell ≡ true → size.quorum ≤ count size.replicas (having m cell)

abbrev pub EveryFirmIsPresent : Type 0
EveryFirmIsPresent = (size : Size) (m : State) → IsSize size → IsReached size m → FirmIsPresent size m

-- ---- the cells to which changes give birth

-- who has an unsettled change in a copy has copies of the cells to which it gives birth
abbrev pub HoldersHaveBorn : State → Type 0
HoldersHaveBorn m =
    (u k : ℕ) (cell born : Cell) → is_unsettled (m.changes u).verdict ≡ true → has_cell (m.changes u).cells cell ≡ true → has_change (applied m k cell) u ≡ true → has_cell (cells_of (births (m.changes u).op)) born ≡ true → HasCopy m k born

abbrev pub EveryHolderHasBorn : Type 0
EveryHolderHasBorn = (size : Size) (m : State) → IsReached size m → HoldersHaveBorn m

-- a content of the cell is adopted, of its aspect, and some replica has a copy
pub record IsBorn (size : Size) (m : State) (cell : Cell) : Type 0 where
  pub adopted : holds cell.aspect (m.adopted cell) ≡ true
  pub replica : ℕ
  pub low : replica < size.replicas
  pub copy : HasCopy m replica cell

-- of each cell to which an adopted change gave birth
abbrev pub EveryAdoptedBears : Type 0
EveryAdoptedBears =
    (size : Size) (m : State) → IsSize size → IsReached size m → (u : ℕ) (cell : Cell) → (m.changes u).verdict ≡ Adopted → has_cell (cells_of (births (m.changes u).op)) cell ≡ true → IsBorn size m cell
