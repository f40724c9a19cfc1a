-- The changes of a set: what each does, and what has become of it. A number is drawn when the change is to be marked;
-- the change is unsettled from the sending of its op until it is decided, as adopted or as dropped. Ours.
use Rattle.std.specs.Prelude.{ℕ, zero, suc, Bool, true, false, ◌&&◌, ◌||◌, List, [], Option, None}
use Rattle.fop_types.specs.declared.cells.Cell.{Cell}
use Rattle.fop_types.specs.declared.history.Entry.{Entry}
use Rattle.fop_types.specs.declared.store_ops.StoreOp.{StoreOp}
use Rattle.fop_types.specs.declared.store_ops.StoreOp.TheVariants as op
use Rattle.fop_types.specs.Cells.{root}
use Rattle.afr_machine.specs.Replicas.{Replicas, nobody}
use Rattle.afr_machine.specs.Touching.{has_cell, share}

pub data Verdict : Type 0 where
  Undrawn : Verdict
  Drawn : Verdict
  Unsettled : Verdict
  Adopted : Verdict
  Dropped : Verdict

-- `by` is its own transaction; `done` are the replicas whose op wind ended with Done
pub record Change : Type 0 where
  pub by : ℕ
  pub cells : List Cell
  pub op : StoreOp
  pub effect : Option Entry
  pub verdict : Verdict
  pub done : Replicas

abbrev pub no_change : Change
no_change = record { by = 0; cells = []; op = op.MakeCopy root None; effect = None; verdict = Undrawn; done = nobody }

abbrev pub is_unsettled : Verdict → Bool
is_unsettled Undrawn = false
is_unsettled Drawn = false
is_unsettled Unsettled = true
is_unsettled Adopted = false
is_unsettled Dropped = false

abbrev pub is_adopted : Verdict → Bool
is_adopted Undrawn = false
is_adopted Drawn = false
is_adopted Unsettled = false
is_adopted Adopted = true
is_adopted Dropped = false

abbrev pub verdict_of : Bool → Verdict
verdict_of true = Adopted
verdict_of false = Dropped

-- the change is unsettled, and touches one of the cells
abbrev pub touches : Change → List Cell → Bool
touches change cells = is_unsettled change.verdict && share change.cells cells

-- one of the first changes is unsettled, and touches one of the cells
abbrev pub any_touches : (ℕ → Change) → ℕ → List Cell → Bool
any_touches changes zero cells = false
any_touches changes (suc u) cells = touches (changes (suc u)) cells || any_touches changes u cells

-- the change is adopted, and the cell is one of those that it alters
abbrev pub is_adopted_on : Change → Cell → Bool
is_adopted_on change cell = is_adopted change.verdict && has_cell change.cells cell
