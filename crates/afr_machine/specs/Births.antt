-- What keeps births apart: all births of a cell give it one content, and nobody gives birth to a cell on which another
-- transaction works. Ours; the transactions of a set are run by somebody who keeps it so.
use Rattle.std.specs.Prelude.{◌≡◌, ◌≢◌, ℕ, true, false, List, [], ◌∷◌, Option, Some, None}
use Rattle.fop_types.specs.StoreOps.{Contents, births, after_births}
use Rattle.fop_types.specs.declared.cells.Cell.{Cell}
use Rattle.fop_types.specs.declared.contents.Content.{Content}
use Rattle.fop_types.specs.declared.store_ops.StoreOp.{StoreOp}
use Rattle.afr_machine.specs.Touching.{share}
use Rattle.afr_machine.specs.Changes.{Change}
use Rattle.afr_machine.specs.Transactions.{Work, Txn, cells_of_job, may_hold}
use Rattle.afr_machine.specs.Transactions.Work.{Own, Settles}
use Rattle.afr_machine.specs.States.{State}

-- the content is that of the cell's first birth, where there was one
abbrev pub IsAsFirst : Option Content → Content → Type 0
IsAsFirst None content = Unit {0}
IsAsFirst (Some first) content = content ≡ first

-- each birth gives its cell the content of the first one
abbrev pub AreAsFirst : Contents → List (Cell × Content) → Type 0
AreAsFirst born [] = Unit {0}
AreAsFirst born (b ∷ bs) = IsAsFirst (born b.0) b.1 × AreAsFirst born bs

-- the cells that a transaction locks: those of its job, or those of the change that it settles
abbrev pub cells_of_work : (ℕ → Change) → Txn → Work → List Cell
cells_of_work changes x Own = cells_of_job x.job
cells_of_work changes x (Settles u) = (changes u).cells

-- no other transaction holds or asks locks on one of the cells
abbrev pub AreLeftAlone : State → ℕ → List Cell → Type 0
AreLeftAlone m t cells =
    (other : ℕ) → other ≢ t → may_hold (m.txns other).stage ≡ true → share cells (cells_of_work m.changes (m.txns other) (m.txns other).work) ≡ false

-- the births of the op are on their way from now on
abbrev pub with_births : State → StoreOp → State
with_births m op = record m { born = after_births m.born (births op) }
