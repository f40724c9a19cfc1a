-- Rows without their counters: who accuses whom, and what each request makes of that; and soundness by counts of
-- replicas. Ours.
use Rattle.std.specs.Prelude.{◌≡◌, ℕ, ◌+◌, ◌-◌, ◌<◌, ◌==◌, ◌↔◌, Bool, true, false, not, ◌&&◌, ◌||◌, Some}
use Rattle.fop_types.specs.declared.cells.Cell.{Cell}
use Rattle.afr_changelog.specs.Soundness.{accuses}
use Rattle.afr_machine.specs.Replicas.{Replicas, Size, IsSize, count}
use Rattle.afr_machine.specs.Touching.{has_cell}
use Rattle.afr_machine.specs.Copies.{Store, rows_of}
use Rattle.afr_machine.specs.Requests.{Ask}
use Rattle.afr_machine.specs.Requests.Ask.{Lock, Unlock, Mark, Op, Post, Fetch, Replace, Clear, Settle, Index, Open, Release, OpenFirst}
use Rattle.afr_machine.specs.Bricks.{stored_by}
use Rattle.afr_machine.specs.Phases.{Phase, IsSoundIn}

-- ---- accusations

-- the row of the cell accuses the replica: its counter is not zero
abbrev pub accuses_at : Store → Cell → ℕ → Bool
accuses_at store cell i = not ((store cell).pending i == 0)

-- the request accuses the replica on the cell
abbrev pub adds : Ask → Cell → ℕ → Bool
adds (Lock shared cells) cell i = false
adds Unlock cell i = false
adds (Mark change cells) cell i = false
adds (Op change op) cell i = false
adds (Post change cells accused) cell i = has_cell cells cell && accused i
adds (Fetch other) cell i = false
adds (Replace other found) cell i = false
adds (Clear cells who) cell i = false
adds (Settle change cells accused) cell i = has_cell cells cell && accused i
adds Index cell i = false
adds Open cell i = false
adds Release cell i = false
adds OpenFirst cell i = false

-- the request takes accusations of the replica on the cell back
abbrev pub pardons : Ask → Cell → ℕ → Bool
pardons (Lock shared cells) cell i = false
pardons Unlock cell i = false
pardons (Mark change cells) cell i = false
pardons (Op change op) cell i = false
pardons (Post change cells accused) cell i = false
pardons (Fetch other) cell i = false
pardons (Replace other found) cell i = false
pardons (Clear cells who) cell i = has_cell cells cell && who i
pardons (Settle change cells accused) cell i = false
pardons Index cell i = false
pardons Open cell i = false
pardons Release cell i = false
pardons OpenFirst cell i = false

-- the row that is sent says who is accused, of five replicas
abbrev pub RowsShowAccusers : Type 0
RowsShowAccusers = (store : Store) (cell : Cell) (i : ℕ) → i < 5 → accuses i (Some (rows_of store cell)) ≡ accuses_at store cell i

-- Posts and settles add accusers, clears take them back, and nothing else touches them; a counter at its highest value
-- stays other than zero.
abbrev pub AccusersFollow : Type 0
AccusersFollow =
    (ask : Ask) (store : Store) (cell : Cell) (i : ℕ) →
    accuses_at (stored_by ask store) cell i ≡ (adds ask cell i || (accuses_at store cell i && not (pardons ask cell i)))

-- ---- counts

-- two sets that together have more members than there are replicas have one in common
pub record IsCommonTo (n : ℕ) (a b : Replicas) : Type 0 where
  pub member : ℕ
  pub replica : member < n
  pub first : a member ≡ true
  pub second : b member ≡ true

abbrev pub QuorumsMeet : Type 0
QuorumsMeet = (n : ℕ) (a b : Replicas) → n < count n a + count n b → IsCommonTo n a b

-- the reached replicas whose rows accuse the replica on the cell
abbrev pub accusing_in : Phase → Cell → ℕ → Replicas
accusing_in phase cell i k = phase.reached k && accuses i (Some (phase.rows k cell))

-- the replica is sound, by counts
pub record IsSoundByCount (size : Size) (phase : Phase) (cell : Cell) (i : ℕ) : Type 0 where
  pub replica : i < size.replicas
  pub reached : phase.reached i ≡ true
  pub present : (phase.rows i cell).present ≡ true
  pub trusts_itself : accuses i (Some (phase.rows i cell)) ≡ false
  pub few : count size.replicas (accusing_in phase cell i) + (size.replicas - size.quorum) < count size.replicas phase.reached

abbrev pub SoundnessIsCounted : Type 0
SoundnessIsCounted = (size : Size) (phase : Phase) (cell : Cell) (i : ℕ) → IsSoundIn size phase cell i ↔ IsSoundByCount size phase cell i

-- A replica that is sound in a lock phase has fewer than a quorum of accusers among all replicas, where those that were
-- reached accuse it exactly by the rows that they showed.
abbrev pub SoundHasFewAccusers : Type 0
SoundHasFewAccusers =
    (size : Size) (phase : Phase) (cell : Cell) (i : ℕ) (accusers : Replicas) → IsSize size → IsSoundIn size phase cell i →
    ((k : ℕ) → phase.reached k ≡ true → accusers k ≡ accuses i (Some (phase.rows k cell))) →
    count size.replicas accusers < size.quorum
