-- The state of one set: its bricks, the connections as the hub has them, the transactions, the lock phases that have
-- ended, the changes, and what is adopted of each cell. Ours.
use Rattle.std.specs.Prelude.{ℕ, ◌==◌, Bool, false, ◌&&◌, ◌||◌, List, [], ◌∷◌, ◌++◌}
use Rattle.fop_types.specs.Cells.{root, meta_cell, names_cell}
use Rattle.fop_types.specs.StoreOps.{Contents}
use Rattle.fop_types.specs.declared.cells.Cell.{Cell}
use Rattle.afr_machine.specs.Replicas.{with_at}
use Rattle.afr_machine.specs.Touching.{has_cell}
use Rattle.afr_machine.specs.Copies.{root_alone, contents_of}
use Rattle.afr_machine.specs.Requests.{Input}
use Rattle.afr_machine.specs.Bricks.{Brick, no_brick}
use Rattle.afr_machine.specs.Changes.{Change, no_change}
use Rattle.afr_machine.specs.Phases.{Phase, no_phase}
use Rattle.afr_machine.specs.Transactions.{Txn, no_txn}

-- a graph's connections to a brick, as the hub has them: the number of the last one, 0 before the first, and whether it
-- is open
pub record Link : Type 0 where
  pub last : ℕ
  pub is_open : Bool

-- the connection of this number is the one that is open
abbrev pub is_current : Link → ℕ → Bool
is_current link connection = link.is_open && (connection == link.last)

-- `links` go by brick and graph. Transactions, lock phases and changes are numbered from 1, as far as `begun`, `ended`
-- and `drawn`. `adopted`: the content of each cell that was born, with the adopted changes in order. `firm`: the cells
-- that count as present, whose birth a quorum confirmed or which a change touched. `born`: the content that the first
-- birth of each cell gave it, from when that birth was begun.
pub record State : Type 0 where
  pub bricks : ℕ → Brick
  pub links : ℕ → ℕ → Link
  pub txns : ℕ → Txn
  pub begun : ℕ
  pub phases : ℕ → Phase
  pub ended : ℕ
  pub changes : ℕ → Change
  pub drawn : ℕ
  pub adopted : Contents
  pub firm : Cell → Bool
  pub born : Contents

-- every brick begins with the root alone; no graph is connected
abbrev pub start : State
start = record {
  bricks = λ k. no_brick root_alone;
  links = λ k g. record { last = 0; is_open = false };
  txns = λ t. no_txn;
  begun = 0;
  phases = λ p. no_phase;
  ended = 0;
  changes = λ u. no_change;
  drawn = 0;
  adopted = contents_of root_alone;
  firm = has_cell (meta_cell root ∷ names_cell root ∷ []);
  born = contents_of root_alone;
}

-- ---- a state with one part changed

abbrev pub with_brick : State → ℕ → Brick → State
with_brick m k brick = record m { bricks = with_at m.bricks k brick }

abbrev pub with_link : State → ℕ → ℕ → Link → State
with_link m k g link = record m { links = with_at m.links k (with_at (m.links k) g link) }

abbrev pub with_txn : State → ℕ → Txn → State
with_txn m t x = record m { txns = with_at m.txns t x }

abbrev pub with_change : State → ℕ → Change → State
with_change m u change = record m { changes = with_at m.changes u change }

abbrev pub with_phase : State → ℕ → Phase → State
with_phase m p phase = record m { phases = with_at m.phases p phase }

-- more inputs in the line of a brick
abbrev pub with_inputs : State → ℕ → List Input → State
with_inputs m k inputs = with_brick m k (record (m.bricks k) { line = (m.bricks k).line ++ inputs })

-- these cells count as present from now on
abbrev pub with_firm : State → List Cell → State
with_firm m cells = record m { firm = λ cell. has_cell cells cell || m.firm cell }

-- ---- parts that are read often

abbrev pub phase_of : State → ℕ → Phase
phase_of m t = m.phases (m.txns t).phase

abbrev pub link_of : State → ℕ → ℕ → Link
link_of m t k = m.links k (m.txns t).graph
