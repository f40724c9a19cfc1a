-- On which set an object is read and changed: a file on the set on which it lives, a directory's mode and attributes on the
-- first, where a directory is removed too. Ours.
use Rattle.std.specs.Prelude.{◌≡◌, ◌≢◌, ◌⊎◌, ℕ, Option, Some}
use Rattle.afr_machine.specs.Changes.Verdict.{Undrawn}
use Rattle.dht_fops.specs.Courses.{Course}
use Rattle.dht_fops.specs.Shown.{Homes}
use Rattle.fop_types.specs.Bounds.{Each}
use Rattle.fop_types.specs.declared.cells.Cell.{Cell}
use Rattle.fop_types.specs.declared.cells.Gfid.{Gfid}
use Rattle.fop_types.specs.declared.cells.Kind.{Kind}
use Rattle.fop_types.specs.declared.cells.Kind.TheVariants as kind
use Rattle.fop_types.specs.declared.history.Entry.{Entry}
use Rattle.fop_types.specs.declared.jobs.Job.{Job}
use Rattle.fop_types.specs.declared.jobs.Job.TheVariants as job
use Rattle.fop_types.specs.declared.jobs.SetReply.{SetReply}
use Rattle.fop_types.specs.declared.store_ops.StoreOp.{StoreOp}
use Rattle.fop_types.specs.declared.store_ops.StoreOp.TheVariants as op
use Rattle.mount_laws.specs.Objects.{IsMadeOn}
use Rattle.mount_laws.specs.Runs.{Run}
use Rattle.mount_laws.specs.States.{State, Runs}

-- ---- jobs

-- a cell of a file is on the file's home
abbrev pub IsAtHome : (Gfid → Option Kind) → Homes → ℕ → Cell → Type 0
IsAtHome kinds homes set cell = kinds cell.gfid ≡ Some kind.File → homes cell.gfid ≡ set

abbrev pub AreAtHome : (Gfid → Option Kind) → Homes → ℕ → Job → Type 0
AreAtHome kinds homes set (job.Read cells fd dir) = Each (IsAtHome kinds homes set) cells
AreAtHome kinds homes set (job.Change cells fd o effect) = Each (IsAtHome kinds homes set) cells
AreAtHome kinds homes set (job.Birth cells o) = Each (IsAtHome kinds homes set) cells
AreAtHome kinds homes set (job.Open fd gfid) = Unit {0}
AreAtHome kinds homes set job.Index = Unit {0}
AreAtHome kinds homes set (job.Heal cell) = Unit {0}

-- A read, a change or a birth of a file's cells is on the file's home, from the asking on: a file has one home for good.
abbrev pub JobHome : State → Type 0
JobHome m = (c : ℕ) (run : Run) (set : ℕ) (asked : Job) (next : SetReply → Course) → Runs m c run → run.course ≡ Course.Asks set asked next → AreAtHome m.kinds m.homes set asked

-- ---- changes

-- a directory on the first set, or a file on its home
abbrev pub IsObjectOn : (Gfid → Option Kind) → Homes → ℕ → Gfid → Type 0
IsObjectOn kinds homes set gfid = ((kinds gfid ≡ Some kind.Dir) × (set ≡ 0)) ⊎ IsMadeOn kinds homes set gfid kind.File

-- where an op with an effect is made; on which set a name is added, dropped or moved is not said here
abbrev pub IsChangedOn : (Gfid → Option Kind) → Homes → ℕ → StoreOp → Type 0
IsChangedOn kinds homes set (op.Write gfid offset bytes) = IsMadeOn kinds homes set gfid kind.File
IsChangedOn kinds homes set (op.Truncate gfid size) = IsMadeOn kinds homes set gfid kind.File
IsChangedOn kinds homes set (op.SetMode gfid mode) = IsObjectOn kinds homes set gfid
IsChangedOn kinds homes set (op.SetAttr gfid attr) = IsObjectOn kinds homes set gfid
IsChangedOn kinds homes set (op.DelAttr gfid name) = IsObjectOn kinds homes set gfid
IsChangedOn kinds homes set (op.AddName parent item mode span) = Unit {0}
IsChangedOn kinds homes set (op.DropName parent name) = Unit {0}
IsChangedOn kinds homes set (op.DropDir parent name gfid) = set ≡ 0
IsChangedOn kinds homes set (op.Move parent name target new_name) = Unit {0}
IsChangedOn kinds homes set (op.MakeCopy gfid span) = ⊥

-- Each change with an effect is on such a set, of an object that was made.
abbrev pub ChangedAtHome : State → Type 0
ChangedAtHome m = (u : ℕ) (entry : Entry) → (m.changes u).verdict ≢ Undrawn → (m.changes u).effect ≡ Some entry → IsChangedOn m.kinds m.homes (m.changes u).set (m.changes u).op
